-- Inputs that were marked so far.
use Rattle.std.proofs.Common.{◌≡◌, ◌⊎◌, ◌<◌, ◌≤◌, ◌+◌, ◌∙◌, ap, sym, subst, refl, ℕ, List, Bool}
use Rattle.std.proofs.Common.{not}
use Rattle.std.proofs.Common.{length, slice_get, set, zero, suc, [], ◌∷◌, Some, true, false, inl}
use Rattle.std.proofs.Common.{inr, arith}
use Rattle.std.proofs.lemmas.Bool.{cases_lt}
use Rattle.std.proofs.lemmas.Option.{same_Some}
use Rattle.ix_message.specs.Shape.{Text}
use Rattle.ix_rec.specs.declared.netlist.NetlistRec.{NetlistRec}
use Rattle.ix_hierarchy.specs.Hierarchy.{Path}
use Rattle.ix_joined.specs.Joining.{Known}
use Rattle.ix_open_inputs.specs.Joinings.{IsPin}

abbrev pub AreOpenTo : Known → NetlistRec → Path → (inputs : List ℕ) → List Bool → (bound : ℕ)
    → Type 0
AreOpenTo known design path inputs marks bound = (input name : ℕ) (text : Text) → input < bound
    → slice_get inputs input ≡ Some name → slice_get known.names name ≡ Some text
    → (mark : Bool) × (slice_get marks input ≡ Some mark)
    × IsPin known design path text (not mark)

set_here : (xs : List Bool) (k : ℕ) (b : Bool) → k < length xs → slice_get (set xs k b) k ≡ Some b
set_here [] k b lt = absurd (omega (arith, lt))
set_here (x ∷ xs) zero b lt = refl
set_here (x ∷ xs) (suc k) b lt = set_here xs k b (omega (arith, lt))

set_other : (xs : List Bool) (k j : ℕ) (b : Bool) → (j ≡ k → ⊥)
    → slice_get (set xs k b) j ≡ slice_get xs j
set_other [] k j b apart = refl
set_other (x ∷ xs) zero zero b apart = absurd (apart refl)
set_other (x ∷ xs) zero (suc j) b apart = refl
set_other (x ∷ xs) (suc k) zero b apart = refl
set_other (x ∷ xs) (suc k) (suc j) b apart = set_other xs k j b (λ e. apart (ap suc e))

pub one_more : (known : Known) (design : NetlistRec) (path : Path) (inputs : List ℕ)
    (marks : List Bool) (n name : ℕ) (joined : Bool) → n < length marks
    → slice_get inputs n ≡ Some name
    → ((text : Text) → slice_get known.names name ≡ Some text
    → IsPin known design path text joined)
    → AreOpenTo known design path inputs marks n
    → AreOpenTo known design path inputs (set marks n (not joined)) (n + 1)
one_more known design path inputs marks n name joined inside at told was input other text lt is
    named = by (cases_lt input n)
  where
    twice : (b : Bool) → not (not b) ≡ b
    twice true = refl
    twice false = refl

    by : (input < n) ⊎ (n ≤ input) → (mark : Bool)
        × (slice_get (set marks n (not joined)) input ≡ Some mark)
        × IsPin known design path text (not mark)
    by (inl less) = let w = was input other text less is named in
        (w.0, set_other marks n input (not joined) (λ e. omega (arith, less, e)) ∙ w.1, w.2)
    by (inr le) = let here : input ≡ n = omega (arith, lt, le) in
        let same : other ≡ name = same_Some other name
        (sym is ∙ ap (slice_get inputs) here ∙ at) in (
          not joined,
          ap (slice_get (set marks n (not joined))) here ∙ set_here marks n (not joined) inside,
          subst (IsPin known design path text) (sym (twice joined))
              (told text (ap (slice_get known.names) (sym same) ∙ named)),
        )
