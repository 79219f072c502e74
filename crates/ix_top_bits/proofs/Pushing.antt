-- Bits, with one more.
use Rattle.std.proofs.Common.{◌≡◌, ◌<◌, ◌+◌, ap, refl, sym, subst, ◌∙◌, ℕ, zero, suc, List, [], ◌∷◌}
use Rattle.std.proofs.Common.{◌++◌, slice_get, Some, arith, length, inl, inr}
use Rattle.std.proofs.lemmas.Option.{none-some, same_Some, slice_get_within}
use Rattle.std.proofs.lemmas.List.{length_push}
use Rattle.ix_rec.specs.declared.netlist.NetlistRec.{NetlistRec}
use Rattle.ix_hierarchy.specs.declared.instance.Instance.{Instance}
use Rattle.ix_hierarchy.specs.Hierarchy.{Path}
use Rattle.ix_joined.specs.declared.top_bit.TopBit.{TopBit}
use Rattle.ix_joined.specs.Joining.{IsBitOf, TopPlace}
use Rattle.ix_top_bits.specs.Given.{AreBitsOf}
use Rattle.ix_top_bits.proofs.Slices.{in_either}

-- the only item of a list
only : {A : Type 0} (x y : A) (k : ℕ) → slice_get (x ∷ []) k ≡ Some y → (k ≡ 0) × (x ≡ y)
only x y zero h = (refl, same_Some x y h)
only x y (suc k) h = absurd (none-some y h)

pub one_more : (design : NetlistRec) (all : List Instance) (paths : List Path) (firsts : List ℕ)
    (places : List TopPlace) (bits : List TopBit) (at : TopPlace) (bit : TopBit)
    → AreBitsOf design all paths firsts places bits → IsBitOf design all paths firsts at bit
    → AreBitsOf design all paths firsts (places ++ at ∷ []) (bits ++ bit ∷ [])
one_more design all paths firsts places bits at bit are is =
    let many : length bits ≡ length places = are.many in
    record {
      many = length_push bits bit ∙ ap (λ n. n + 1) many ∙ sym (length_push places at);
      each = λ k p b pk bk.
          elim (in_either places (at ∷ []) k p pk) [
            | inl first ↦ elim (in_either bits (bit ∷ []) k b bk) [
              | inl here ↦ are.each k p b first here
              | inr last ↦ let lt : k < length places = slice_get_within places k p first in
                  let e : k ≡ length bits + last.0 = last.1 in absurd (omega arith)
            ]
            | inr last ↦ elim (in_either bits (bit ∷ []) k b bk) [
              | inl here ↦ let lt : k < length bits = slice_get_within bits k b here in
                  let e : k ≡ length places + last.0 = last.1 in absurd (omega arith)
              | inr other ↦
                  subst (λ q. IsBitOf design all paths firsts q b) (only at p last.0 last.2).1
                  (subst (λ q. IsBitOf design all paths firsts at q) (only bit b other.0 other.2).1
                  is)
            ]
          ];
    }

pub none_yet : (design : NetlistRec) (all : List Instance) (paths : List Path)
    (firsts : List ℕ) → AreBitsOf design all paths firsts [] []
none_yet design all paths firsts = record {
  many = refl;
  each = λ k at bit h. absurd (none-some at h);
}
