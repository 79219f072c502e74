-- Pins of a map.
use Rattle.std.proofs.Common.{◌≡◌, ◌∙◌, ap, sym, refl, subst, ℕ, Bool, true, false, cond, List, []}
use Rattle.std.proofs.Common.{◌∷◌, ◌++◌, ◌&&◌, T, inl, inr, append-nil}
use Rattle.std.specs.Prelude.{◌⊎◌, slice_get, Some}
use Rattle.std.specs.Cmp.{Equal-is}
use Rattle.std.specs.declared.cmp.Ordering.{Ordering}
use Rattle.std.specs.declared.cmp.Ordering.TheVariants.{Less, Equal, Greater}
use Rattle.std.specs.FinMap.{FinMap, entries, entries_sorted, get, get-entries}
use Rattle.std.specs.FinMap.Entries.{below_all, find, is_sorted}
use Rattle.std.specs.List.{AllByRecursion}
use Rattle.std.specs.Ordering.{eq_by_cmp, is_eq, is_lt, ordering_reverse}
use Rattle.std.proofs.lemmas.Cmp.{tied_itself}
use Rattle.std.proofs.lemmas.List.{append_assoc}
use Rattle.std.proofs.lemmas.Option.{none-some, same_Some}
use Rattle.ix_num.specs.declared.resource.NetRef.{NetRef}
use Rattle.ix_rec.specs.Maps.{pin_order, pin_order-IsAntisymmetric, pin_order_total}
use Rattle.ix_rec.specs.declared.flow.Flat.{Flat}
use Rattle.ix_rec.specs.declared.flow.FlatCell.{FlatCell}
use Rattle.ix_differences.specs.Earliest.{IsPinIn}
use Rattle.ix_differences.specs.declared.earliest.PinName.{PinName}

abbrev pub Entry : Type 0
Entry = (ℕ × ℕ) × NetRef

module _ (P : Entry → Type 0) where
  -- what holds of all entries holds of what is found
  pub at_found : (q : ℕ × ℕ) (net : NetRef) (es : List Entry) → AllByRecursion P es
      → find pin_order q es ≡ Some net → P (q, net)
  at_found q net [] all found = absurd (none-some net found)
  at_found q net (e ∷ es) all found =
      by (eq_by_cmp pin_order q e.0) refl (at_found q net es all.1) found
    where
      by : (b : Bool) → eq_by_cmp pin_order q e.0 ≡ b
          → (find pin_order q es ≡ Some net → P (q, net))
          → cond b (Some e.1) (find pin_order q es) ≡ Some net → P (q, net)
      by true tied later is =
          let key : e.0 ≡ q = sym (pin_order-IsAntisymmetric q e.0
          ((Equal-is (pin_order q e.0)).0 tied)) in
          let value : e.1 ≡ net = same_Some e.1 net is in
          subst P (λ i. (key i, value i)) all.0
      by false other later is = later is

  pub at_pin : (m : FinMap pin_order NetRef) (q : ℕ × ℕ) (net : NetRef)
      → AllByRecursion P (entries m) → get m q ≡ Some net → P (q, net)
  at_pin m q net all found = at_found q net (entries m) all (sym (get-entries m q) ∙ found)

  -- what holds of all entries holds of the one that comes next
  pub at_next : (done : List Entry) (e : Entry) (rest : List Entry)
      → AllByRecursion P (done ++ e ∷ rest) → P e
  at_next [] e rest all = all.0
  at_next (d ∷ done) e rest all = at_next done e rest all.1

-- An entry of a map is what is found under its key.

both_left : (a b : Bool) → T (a && b) → T a
both_left true b h = tt
both_left false b h = h

both_right : (a b : Bool) → T (a && b) → T b
both_right true b h = h
both_right false b h = absurd h

below_there : (key : ℕ × ℕ) (done : List Entry) (e : Entry) (rest : List Entry)
    → T (below_all pin_order key (done ++ e ∷ rest)) → T (is_lt (pin_order key e.0))
below_there key [] e rest below = both_left (is_lt (pin_order key e.0)) _ below
below_there key (d ∷ done) e rest below = below_there key done e rest
    (both_right (is_lt (pin_order key d.0)) _ below)

found_there : (done : List Entry) (e : Entry) (rest : List Entry)
    → T (is_sorted pin_order (done ++ e ∷ rest))
    → find pin_order e.0 (done ++ e ∷ rest) ≡ Some e.1
found_there [] e rest sorted = ap (λ r. cond (is_eq r) (Some e.1) (find pin_order e.0 rest))
    (tied_itself pin_order_total e.0)
found_there (d ∷ done) e rest sorted =
    by (pin_order d.0 e.0) refl
    (below_there d.0 done e rest (both_left (below_all pin_order d.0 (done ++ e ∷ rest)) _ sorted))
    (found_there done e rest
    (both_right (below_all pin_order d.0 (done ++ e ∷ rest)) _ sorted))
  where
    by : (r : Ordering) → pin_order d.0 e.0 ≡ r → T (is_lt r)
        → find pin_order e.0 (done ++ e ∷ rest) ≡ Some e.1
        → find pin_order e.0 (d ∷ (done ++ e ∷ rest)) ≡ Some e.1
    by Less is less found = ap (λ r. cond (is_eq r) (Some d.1)
        (find pin_order e.0 (done ++ e ∷ rest)))
        (pin_order_total.antisymm e.0 d.0 ∙ ap ordering_reverse is) ∙ found
    by Equal is less found = absurd less
    by Greater is less found = absurd less

pub got_there : (m : FinMap pin_order NetRef) (done : List Entry) (e : Entry) (rest : List Entry)
    → entries m ≡ done ++ e ∷ rest → get m e.0 ≡ Some e.1
got_there m done e rest is = get-entries m e.0 ∙ ap (find pin_order e.0) is
    ∙ found_there done e rest (subst (λ es. T (is_sorted pin_order es)) is (entries_sorted m))

-- The pins of some entries, by name.

abbrev pub IsPinOf : List FlatCell → PinName → Entry → Type 0
IsPinOf cells at e = (cell : FlatCell) × (slice_get cells e.0.0 ≡ Some cell)
    × (cell.name ≡ at.cell) × (e.0.1 ≡ at.pin)

abbrev pub IsAmong : List FlatCell → List Entry → PinName → Type 0
IsAmong cells [] at = ⊥
IsAmong cells (e ∷ es) at = IsPinOf cells at e ⊎ IsAmong cells es at

pub among_next : (cells : List FlatCell) (es : List Entry) (e : Entry) (at : PinName)
    → IsAmong cells (es ++ e ∷ []) at → IsAmong cells es at ⊎ IsPinOf cells at e
among_next cells [] e at among = elim among [ inl here ↦ inr here | inr never ↦ absurd never ]
among_next cells (d ∷ es) e at among = elim among [
  | inl here ↦ inl (inl here)
  | inr later ↦ elim (among_next cells es e at later) [
    | inl before ↦ inl (inr before)
    | inr here ↦ inr here
  ]
]

pub among_found : (cells : List FlatCell) (at : PinName) (q : ℕ) (net : NetRef) (cell : FlatCell)
    (es : List Entry) → slice_get cells q ≡ Some cell → cell.name ≡ at.cell
    → find pin_order (q, at.pin) es ≡ Some net → IsAmong cells es at
among_found cells at q net cell [] stands named found = absurd (none-some net found)
among_found cells at q net cell (e ∷ es) stands named found =
    by (eq_by_cmp pin_order (q, at.pin) e.0) refl
    (among_found cells at q net cell es stands named) found
  where
    by : (b : Bool) → eq_by_cmp pin_order (q, at.pin) e.0 ≡ b
        → (find pin_order (q, at.pin) es ≡ Some net → IsAmong cells es at)
        → cond b (Some e.1) (find pin_order (q, at.pin) es) ≡ Some net
        → IsAmong cells (e ∷ es) at
    by true tied later is =
        let key : e.0 ≡ (q, at.pin) = sym (pin_order-IsAntisymmetric (q, at.pin) e.0
        ((Equal-is (pin_order (q, at.pin) e.0)).0 tied)) in
        inl (cell, ap (λ k. slice_get cells k.0) key ∙ stands, named, ap (λ k. k.1) key)
    by false other later is = inr (later is)

-- a pin that is on a net is among all entries
pub among_all : (flat : Flat) (at : PinName) → IsPinIn flat at
    → IsAmong flat.cells (entries flat.pins) at
among_all flat at on = among_found flat.cells at on.0 on.2 on.1 (entries flat.pins) on.3 on.4
    (sym (get-entries flat.pins (on.0, at.pin)) ∙ on.5)

-- entries one by one
pub one_done : (all done rest now : List Entry) (e : Entry) → all ≡ done ++ rest
    → rest ≡ e ∷ now → all ≡ (done ++ e ∷ []) ++ now
one_done all done rest now e is step =
    is ∙ ap (λ es. done ++ es) step ∙ sym (append_assoc done (e ∷ []) now)

pub all_done : (all done rest : List Entry) → all ≡ done ++ rest → rest ≡ [] → all ≡ done
all_done all done rest is none = is ∙ ap (λ es. done ++ es) none ∙ append-nil done
