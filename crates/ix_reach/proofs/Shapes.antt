-- The last visit, and the parts under it.
use Rattle.std.proofs.Common.{◌≡◌, ℕ, ◌-◌, ◌<◌, ◌≤◌, ◌⊎◌, inl, inr, List, [], ◌∷◌, ◌++◌}
use Rattle.std.proofs.Common.{length, slice_get, Some, refl, ap, subst, arith}
use Rattle.std.proofs.lemmas.Option.{slice_get_within}
use Rattle.ix_rec.specs.declared.netlist.NetlistRec.{NetlistRec}
use Rattle.ix_reach.specs.declared.search.Visit.{Visit}
use Rattle.ix_reach.specs.State.{last_of}
use Rattle.ix_reach.specs.Searching.{AreStacked}
use Rattle.ix_reach.proofs.Places.{get_push, push_cases, same_or_not}
use Rattle.ix_reach.proofs.Places.{get_within}

-- a visit is the last one, or of a lesser place
pub visit_cases : (design : NetlistRec) (open_ones parts : List ℕ) (under : List Visit) (v : Visit)
    → AreStacked design open_ones parts (under ++ v ∷ []) → (m : ℕ) (w : Visit)
    → slice_get (under ++ v ∷ []) m ≡ Some w
    → ((slice_get under m ≡ Some w) × (w.opened < v.opened)) ⊎ ((m ≡ length under) × (v ≡ w))
visit_cases design open_ones parts under v h m w at = elim (push_cases under v m w at) [
  | inl old ↦ inl (
    old,
    h.visits_rise m (length under) w v (slice_get_within under m w old)
        at (get_push under v (length under) refl),
  )
  | inr new ↦ inr new
]

pub under_top : (design : NetlistRec) (open_ones parts : List ℕ) (under : List Visit) (v : Visit)
    → AreStacked design open_ones parts (under ++ v ∷ []) → (a p : ℕ)
    → slice_get parts a ≡ Some p → p ≤ v.opened
under_top design open_ones parts under v h a p at = let x : _ = h.parts_visited a p at in
    elim (visit_cases design open_ones parts under v h x.0 x.1 x.2) [
      | inl old ↦ let lt : x.1.opened < v.opened = old.1 in
          let e : x.1.opened ≡ p = x.3 in omega arith
      | inr new ↦ let e : x.1.opened ≡ p = x.3 in
          let same : v.opened ≡ x.1.opened = ap (λ (y : Visit). y.opened) new.1 in omega arith
    ]

-- the part at the place of the last visit is the last part
pub part_last : (design : NetlistRec) (open_ones parts : List ℕ) (under : List Visit) (v : Visit)
    → AreStacked design open_ones parts (under ++ v ∷ []) → (a : ℕ)
    → slice_get parts a ≡ Some v.opened → last_of parts ≡ Some v.opened
part_last design open_ones parts under v h a at =
    let lt : a < length parts = slice_get_within parts a v.opened at in
    elim (same_or_not a (length parts - 1)) [
      | inl e ↦ subst (λ n. slice_get parts n ≡ Some v.opened) e at
      | inr n ↦
          let last : _ = get_within parts (length parts - 1) (omega arith) in
          let more : v.opened < last.0 = h.parts_rise a (length parts - 1) v.opened last.0
          (omega arith) at last.1 in
          let less : last.0 ≤ v.opened = under_top design open_ones parts under v h
          (length parts - 1) last.0 last.1 in
          absurd (omega arith)
    ]
