-- The port cells of a design that keeps N10 are few.
use Rattle.std.proofs.Common.{◌≡◌, ◌<◌, ◌≤◌, ◌+◌, ◌^◌, ap, refl, sym, subst, ◌∙◌, ℕ, suc, List}
use Rattle.std.proofs.Common.{[], ◌∷◌, map, slice_get, Option, Some, None, arith, length, inl, inr}
use Rattle.std.specs.List.{AllByRecursion, flat_map}
use Rattle.std.specs.Option.{option_map}
use Rattle.std.proofs.lemmas.Bool.{cases_lt}
use Rattle.std.proofs.lemmas.List.{length-append, length-map}
use Rattle.std.proofs.lemmas.Option.{none-some, same_Some, slice_get-map}
use Rattle.ix_message.specs.Shape.{Text}
use Rattle.ix_rec.specs.declared.flow.FlatCell.{FlatCell}
use Rattle.ix_rec.specs.declared.netlist.NetlistRec.{NetlistRec}
use Rattle.ix_rec.specs.declared.netlist.Port.{Port}
use Rattle.ix_hierarchy.specs.Hierarchy.{PortNumber, ports_of}
use Rattle.ix_hierarchy.specs.Walk.{IsLess, Spot, TopBit, key}
use Rattle.ix_hierarchy.specs.Broken.{AllDiffer, BreaksN10, IsCounted}
use Rattle.ix_hierarchy.specs.FlatDesign.{cell_texts, port_cells, port_type}
use Rattle.ix_joined.specs.Joining.{ArePlaces, TopPlace, bits_at, places_from, top_places}
use Rattle.ix_port_cells.specs.CellTexts.{AreCells}
use Rattle.ix_all_names.proofs.Kept.{cells_at, typed}

typed_few : (names : List Text) (place : ℕ) (number : PortNumber) (port : Port) (o : Option Text)
    → length (typed names port o) ≤ length (bits_at place number (Some port))
typed_few names place number port None = omega arith
typed_few names place number port (Some ty) = simp length-map (omega arith)

port_few : (names : List Text) (design : NetlistRec) (place : ℕ) (number : PortNumber)
    → length (cells_at names design number)
    ≤ length (bits_at place number (slice_get design.port_list number))
port_few names design place number = by (slice_get design.port_list number) refl
  where
    by : (o : Option Port) → slice_get design.port_list number ≡ o
        → length (cells_at names design number)
        ≤ length (bits_at place number (slice_get design.port_list number))
    by None e = rw e (omega arith)
    by (Some port) e = rw e (typed_few names place number port (port_type port.dir))

numbers_few : (names : List Text) (design : NetlistRec) (place : ℕ) (numbers : List PortNumber)
    → length (flat_map (cells_at names design) numbers)
    ≤ length (places_from design place numbers)
numbers_few names design place [] = omega arith
numbers_few names design place (number ∷ numbers) =
    let here : _ = port_few names design place number in
    let rest : _ = numbers_few names design (place + 1) numbers in
    simp length-append (omega (arith, here, rest))

-- no more than bits of the top's ports
pub cells_few : (names : List Text) (design : NetlistRec)
    → length (port_cells names design) ≤ length (top_places design)
cells_few names design = numbers_few names design 0 (ports_of design design.top_inst.cell)

-- Those are few.

abbrev spot_at : TopPlace → Spot
spot_at at = TopBit at.place at.index

mapped : {A B : Type 0} (f : A → B) (o : Option A) (y : B) → option_map f o ≡ Some y
    → (x : A) × (o ≡ Some x) × (f x ≡ y)
mapped f None y e = absurd (none-some y e)
mapped f (Some x) y e = (x, refl, same_Some (f x) y e)

spot_of : (places : List TopPlace) (k : ℕ) (spot : Spot)
    → slice_get (map spot_at places) k ≡ Some spot
    → (at : TopPlace) × (slice_get places k ≡ Some at) × (spot_at at ≡ spot)
spot_of places k spot h =
    mapped spot_at (slice_get places k) spot (sym (slice_get-map spot_at places k) ∙ h)

not_less : (xs : List ℕ) → IsLess xs xs → ⊥
not_less [] h = h
not_less (x ∷ xs) h = elim h [
  | inl less ↦ absurd (omega arith)
  | inr rest ↦ absurd (not_less xs rest.1)
]

differ : (design : NetlistRec) (places : List TopPlace) → ArePlaces design places
    → AllDiffer (map spot_at places)
differ design places are i j spot x y =
    let a : _ = spot_of places i spot x in
    let b : _ = spot_of places j spot y in
    elim (cases_lt i j) [
      | inl less ↦ absurd (not_less (key spot) (subst (λ s. IsLess (key spot) (key s)) b.2
          (subst (λ s. IsLess (key s) (key (spot_at b.0))) a.2 (are.rise i j a.0 b.0 less a.1 b.1))))
      | inr more ↦ elim (cases_lt j i) [
        | inl less ↦ absurd (not_less (key spot) (subst (λ s. IsLess (key spot) (key s)) a.2
            (subst (λ s. IsLess (key s) (key (spot_at a.0))) b.2
            (are.rise j i b.0 a.0 less b.1 a.1))))
        | inr none ↦ omega arith
      ]
    ]

all_of : (P : Spot → Type 0) (places : List TopPlace)
    → ((k : ℕ) (at : TopPlace) → slice_get places k ≡ Some at → P (spot_at at))
    → AllByRecursion P (map spot_at places)
all_of P [] each = tt
all_of P (at ∷ places) each =
    (each 0 at refl, all_of P places (λ k a h. each (suc k) a h))

pub bits_few : (design : NetlistRec) (places : List TopPlace) → ArePlaces design places
    → ¬ BreaksN10 design → length places ≤ 2 ^ 22
bits_few design places are keeps = elim (cases_lt (2 ^ 22) (length places)) [
  | inl many ↦ absurd (keeps (
    map spot_at places,
    differ design places are,
    all_of (IsCounted design) places (λ k at h. let is : _ = are.each k at h in
        (at.number, is.0, is.1)),
    subst (λ n. 2 ^ 22 < n) (sym (length-map places spot_at)) many,
  ))
  | inr few ↦ few
]

pub cells_many : (names : List Text) (design : NetlistRec) (cells : List FlatCell)
    → AreCells names cells (port_cells names design)
    → length cells ≡ length (port_cells names design)
cells_many names design cells are =
    sym (length-map cells (cell_texts names)) ∙ ap length are
    ∙ length-map (port_cells names design) (λ t. Some t)

pub ports_few : (names : List Text) (design : NetlistRec) (cells : List FlatCell)
    → AreCells names cells (port_cells names design) → ArePlaces design (top_places design)
    → ¬ BreaksN10 design → length cells < 2 ^ 32
ports_few names design cells are places keeps =
    let many : length cells ≡ length (port_cells names design) =
    cells_many names design cells are in
    let some : length (port_cells names design) ≤ length (top_places design) =
    cells_few names design in
    let most : length (top_places design) ≤ 2 ^ 22 =
    bits_few design (top_places design) places keeps in
    omega arith
