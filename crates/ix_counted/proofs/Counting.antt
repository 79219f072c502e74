-- Counts that stop at the most, one declaration after the other.
use Rattle.std.proofs.Common.{◌≡◌, ℕ, zero, suc, ◌+◌, ◌^◌, ◌<◌, ◌≤◌, inl, inr, min, List}
use Rattle.std.proofs.Common.{length, take, slice_get, get_or, Option, Some, None, refl, sym}
use Rattle.std.proofs.Common.{ap, ◌∙◌, subst, arith, option_map}
use Rattle.std.specs.List.{slice_set}
use Rattle.std.proofs.lemmas.Option.{none-some, same_Some, slice_get_within, get_or_from_slice_get}
use Rattle.ix_rec.specs.declared.device.DeviceRec.{DeviceRec}
use Rattle.ix_rec.specs.declared.netlist.Cell.{Cell}
use Rattle.ix_rec.specs.declared.netlist.CellInstance.{CellInstance}
use Rattle.ix_rec.specs.declared.netlist.NetlistRec.{NetlistRec}
use Rattle.ix_hierarchy.specs.declared.kind.Kind.{Kind}
use Rattle.ix_hierarchy.specs.declared.kind.Kind.TheVariants.{Inside, Constant, Plain, Unknown}
use Rattle.ix_hierarchy.specs.Hierarchy.{child_of, inside}
use Rattle.ix_hierarchy.specs.Lists.{AreClosed, IsKind, first_cell}
use Rattle.ix_counted.specs.Counts.{AreCounts, CountsFit, IsKindIn, count_down, in_inside, most}
use Rattle.ix_counted.specs.Counts.{with_instance}
use Rattle.ix_counted.proofs.Places.{get_set_same, get_set_other, length_set, set_cases, taken_get}
use Rattle.ix_counted.proofs.Places.{same_or_not, one_item}
use Rattle.ix_counted.proofs.Sums.{AreLike, like_sum}
use Rattle.ix_counted.proofs.Instances.{child_some, contained, placed, reached_within}

pub instance_is : (below : ℕ → ℕ) (o : Option CellInstance) (inner : ℕ)
    → Some inner ≡ option_map (λ (inst : CellInstance). inst.cell) o
    → with_instance below o ≡ 1 + below inner
instance_is below None inner e = absurd (none-some inner (sym e))
instance_is below (Some x) inner e = ap (λ n. 1 + below n) (sym (same_Some inner x.cell e))

pub count_suc : (design : NetlistRec) (depth d : ℕ) → count_down design (suc depth) d
    ≡ in_inside design (count_down design depth) (inside design d)
unfolding count_down
count_suc design depth d = refl

pub kind_in : (rec : DeviceRec) (design : NetlistRec) (d : ℕ) (kind : Kind)
    → IsKind rec design d kind → IsKindIn design d kind
kind_in rec design d (Inside cell) h = h
kind_in rec design d (Constant constant) h = h.1.0
kind_in rec design d Plain h = h.1.0
kind_in rec design d Unknown h = h.1.0

-- what is counted by the table is what is counted down
like_down : (design : NetlistRec) (closed counts : List ℕ) (i depth d : ℕ)
    → AreClosed design closed → AreCounts design closed i counts
    → slice_get closed i ≡ Some d → i ≤ depth
    → AreLike (in_inside design (λ e. get_or counts e 0) (inside design d))
    (in_inside design (count_down design depth) (inside design d))
like_down design closed counts i depth d closing h at le = by (inside design d) refl
  where
    by : (o : Option Cell) → inside design d ≡ o
        → AreLike (in_inside design (λ e. get_or counts e 0) o)
        (in_inside design (count_down design depth) o)
    by None none = refl
    by (Some cell) is = like_sum (length cell.nets)
        (λ place. with_instance (λ e. get_or counts e 0) (child_of design cell place))
        (λ place. with_instance (count_down design depth) (child_of design cell place))
        (length cell.insts) (λ place lt. one place (child_of design cell place) refl)
      where
        one : (place : ℕ) (x : Option CellInstance) → child_of design cell place ≡ x
            → AreLike (with_instance (λ e. get_or counts e 0) x)
            (with_instance (count_down design depth) x)
        one place None none = refl
        one place (Some x) some =
            let earlier : _ = placed (take i closed) x.cell (closing.behind i d x.cell at
            (contained design d place cell x is some)) in
            let there : _ = taken_get i closed earlier.0 x.cell earlier.1 in
            let lt : earlier.0 < i = there.0 in
            let count : slice_get counts x.cell
            ≡ Some (min (count_down design depth x.cell) (2 ^ 22 + 1)) =
            h.each earlier.0 depth x.cell lt (omega arith) there.1 in
            let value : get_or counts x.cell 0
            ≡ min (count_down design depth x.cell) (2 ^ 22 + 1) =
            get_or_from_slice_get counts x.cell
            (min (count_down design depth x.cell) (2 ^ 22 + 1)) 0 count in
            omega (arith, value)

pub counts_turn : (design : NetlistRec) (closed counts : List ℕ) (i d new : ℕ)
    → AreClosed design closed → AreCounts design closed i counts
    → slice_get closed i ≡ Some d → d < length counts
    → new ≡ min (in_inside design (λ e. get_or counts e 0) (inside design d)) most
    → AreCounts design closed (i + 1) (slice_set counts d new)
counts_turn design closed counts i d new closing h at within is = record {
  many = length_set counts d new ∙ h.many;
  few = λ k n k_at. elim (set_cases counts d k new n k_at) [
    | inl here ↦ let same : new ≡ n = here.1 in
        let e : new ≡ min (in_inside design (λ e. get_or counts e 0) (inside design d))
        (2 ^ 22 + 1) = is in
        let m : n ≤ 2 ^ 22 + 1 = omega (arith, same, e) in m
    | inr other ↦ h.few k n other.1
  ];
  each = λ j depth e lt deep e_at. elim (same_or_not j i) [
    | inl same ↦
        let d_is : e ≡ d = one_item (slice_get closed i) e d
        (subst (λ k. slice_get closed k ≡ Some e) same e_at) at in
        subst (λ x. slice_get (slice_set counts d new) x
        ≡ Some (min (count_down design depth x) most)) (sym d_is)
        (get_set_same counts d new within ∙ ap Some (value depth (omega arith)))
    | inr other ↦ get_set_other counts d e new
        (λ same. other (closing.differ j i d (e_at ∙ ap Some same) at))
        ∙ h.each j depth e (omega arith) deep e_at
  ];
}
  where
    value : (depth : ℕ) → i < depth → new ≡ min (count_down design depth d) most
    value zero deep = absurd (omega arith)
    value (suc depth) deep = is
        ∙ like_down design closed counts i depth d closing h at (omega arith)
        ∙ ap (λ n. min n (2 ^ 22 + 1)) (sym (count_suc design depth d))

pub within_counts : (design : NetlistRec) (counts : List ℕ) (k place : ℕ) (cell : Cell) (inner : ℕ)
    → CountsFit design → length counts ≡ length design.cell_decls
    → slice_get design.cell_list k ≡ Some cell → place < length cell.insts
    → Some inner ≡ option_map (λ (inst : CellInstance). inst.cell) (child_of design cell place)
    → inner < length counts
within_counts design counts k place cell inner fits many at lt e =
    let x : _ = child_some design k place cell fits at lt in
    let same : inner ≡ x.0.cell = same_Some inner x.0.cell
    (e ∙ ap (λ o. option_map (λ (inst : CellInstance). inst.cell) o) x.1) in
    let within : x.0.cell < length design.cell_decls = x.2 in
    omega (arith, same, within, many)

pub not_inside : (design : NetlistRec) (d : ℕ) (kind : Kind) → IsKindIn design d kind
    → ((x : ℕ) → kind ≡ Inside x → ⊥) → first_cell design d ≡ None
not_inside design d (Inside cell) h not = absurd (not cell refl)
not_inside design d (Constant constant) h not = h
not_inside design d Plain h not = h
not_inside design d Unknown h not = h

pub inside_of : (design : NetlistRec) (d cell : ℕ) (kind : Kind) → IsKindIn design d kind
    → kind ≡ Inside cell → first_cell design d ≡ Some cell
inside_of design d cell kind h is = subst (λ k. IsKindIn design d k) is h

pub closed_within : (design : NetlistRec) (closed : List ℕ) (i d : ℕ) → CountsFit design
    → AreClosed design closed → slice_get closed i ≡ Some d → d < length design.cell_decls
closed_within design closed i d fits closing at = reached_within design d fits
    ((closing.reached d).0 (
      i,
      slice_get_within closed i d at,
      get_or_from_slice_get closed i d d at,
    ))
