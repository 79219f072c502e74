-- The turns of the walks over cells and over pins.
use Rattle.std.proofs.Common.{◌≡◌, ◌<◌, ◌+◌, ◌∙◌, ap, sym, subst, ℕ, Bool, true, false, List, []}
use Rattle.std.proofs.Common.{◌∷◌, ◌++◌, length, map, inl, inr}
use Rattle.std.specs.Prelude.{◌⊎◌, slice_get, Option, Some, option_and_then}
use Rattle.std.specs.Bool.{Decides}
use Rattle.std.specs.FinMap.{entries, get}
use Rattle.std.specs.List.{AllByRecursion}
use Rattle.std.proofs.lemmas.Bool.{false≢true}
use Rattle.std.proofs.lemmas.Option.{same_Some}
use Rattle.ix_flat.specs.Range.{IsCellOf, IsNamed, IsNetOf, NumbersFit}
use Rattle.ix_flat.specs.Whole.{AllDiffer}
use Rattle.ix_message.specs.Shape.{Text}
use Rattle.ix_num.specs.Numbers.{NameNumber}
use Rattle.ix_num.specs.declared.resource.NetRef.{NetRef}
use Rattle.ix_rec.specs.declared.flow.Flat.{Flat}
use Rattle.ix_rec.specs.declared.flow.FlatCell.{FlatCell}
use Rattle.ix_differences.specs.Differences.{AgreesOnCell, AgreesOnTable, AllCellsAgree}
use Rattle.ix_differences.specs.Differences.{named_net, net_at}
use Rattle.ix_differences.specs.Earliest.{AgreesAt, ArePinNames, IsEarliest, IsName, IsNameIn}
use Rattle.ix_differences.specs.Earliest.{IsPinIn, name_order, earlier, pin_name_order}
use Rattle.ix_differences.specs.Found.{Any}
use Rattle.ix_differences.specs.declared.earliest.PinName.{PinName}
use Rattle.ix_differences.specs.declared.named_net.NamedNet.{NamedNet}
use Rattle.ix_differences.proofs.Differing.{cells_seen, pins_seen, tables_seen}
use Rattle.ix_differences.proofs.Firsts.{by_word, name_order_total, joined, none_more, one_more}
use Rattle.ix_differences.proofs.Firsts.{pin_name_order_total, wider}
use Rattle.ix_differences.proofs.Keyed.{IsNameBelow, all_below, below_next, named_here}
use Rattle.ix_differences.proofs.Pinned.{Entry, IsAmong, IsPinOf, all_done, among_all, among_next}
use Rattle.ix_differences.proofs.Pinned.{at_next, at_pin, got_there, one_done}

-- a test that fails
pub not_so : {P : Type 0} (t : Bool) → Decides t P → t ≡ false → ¬ P
not_so t decides failed p = false≢true (sym failed ∙ decides.1 p)

-- Cells.

module _ (names : List Text) (Agrees : NameNumber → Type 0) (cells : List FlatCell) where
  abbrev pub CellsTo : ℕ → Option NameNumber → Type 0
  CellsTo i first = IsEarliest (name_order names) (IsName names) Agrees (IsNameBelow cells i) first

  pub cell_differs : (i name : ℕ) (cell : FlatCell) (first now : Option ℕ)
      → slice_get cells i ≡ Some cell → name ≡ cell.name → name < length names → ¬ Agrees name
      → now ≡ earlier (name_order names) first (Some name) → CellsTo i first → CellsTo (i + 1) now
  cell_differs i name cell first now at is within differs now_is h =
      subst (CellsTo (i + 1)) (sym now_is)
      (one_more (name_order names) (IsName names) Agrees (name_order_total names)
      (IsNameBelow cells i) (IsNameBelow cells (i + 1)) first name within differs
      (below_next cells i name cell at is) h)

  pub cell_agrees : (i name : ℕ) (cell : FlatCell) (first now : Option ℕ)
      → slice_get cells i ≡ Some cell → name ≡ cell.name → Agrees name → now ≡ first
      → CellsTo i first → CellsTo (i + 1) now
  cell_agrees i name cell first now at is agrees now_is h =
      subst (CellsTo (i + 1)) (sym now_is)
      (none_more (name_order names) (IsName names) Agrees
      (IsNameBelow cells i) (IsNameBelow cells (i + 1)) first name agrees
      (below_next cells i name cell at is) h)

  pub cells_done : (i : ℕ) (first : Option ℕ) → i ≡ length cells → CellsTo i first
      → IsEarliest (name_order names) (IsName names) Agrees (IsNameIn cells) first
  cells_done i first end h = wider (name_order names) (IsName names) Agrees
      (IsNameBelow cells i) (IsNameIn cells) first
      (λ k stands. inl (all_below cells i end k stands)) h

pub first_cell_is : (names : List Text) (a b : Flat) (x y first : Option ℕ)
    → IsEarliest (name_order names) (IsName names) (AgreesOnCell a b) (IsNameIn a.cells) x
    → IsEarliest (name_order names) (IsName names) (AgreesOnCell a b) (IsNameIn b.cells) y
    → first ≡ earlier (name_order names) x y
    → IsEarliest (name_order names) (IsName names) (AgreesOnCell a b) Any first
first_cell_is names a b x y first in_a in_b is =
    subst (IsEarliest (name_order names) (IsName names) (AgreesOnCell a b) Any) (sym is)
    (wider (name_order names) (IsName names) (AgreesOnCell a b)
    (λ k. IsNameIn a.cells k ⊎ IsNameIn b.cells k) Any (earlier (name_order names) x y)
    (λ k any. cells_seen a b k)
    (joined (name_order names) (IsName names) (AgreesOnCell a b) (name_order_total names)
    (IsNameIn a.cells) (IsNameIn b.cells) x y in_a in_b))

pub first_table_is : (names : List Text) (a b : Flat) (first : Option ℕ) → AllCellsAgree a b
    → IsEarliest (name_order names) (IsName names) (AgreesOnTable a b) (IsNameIn a.cells) first
    → IsEarliest (name_order names) (IsName names) (AgreesOnTable a b) Any first
first_table_is names a b first agree h = wider (name_order names) (IsName names)
    (AgreesOnTable a b) (IsNameIn a.cells) Any first (λ k any. tables_seen a b agree k) h

-- Pins.

pub net_there : (flat : Flat) (cell pin : ℕ) (net : NetRef) → NumbersFit flat
    → get flat.pins (cell, pin) ≡ Some net → IsNetOf flat net
net_there flat cell pin net fits found =
    (at_pin (λ e. IsCellOf flat e.0.0 × IsNetOf flat e.1) flat.pins (cell, pin) net fits.pins
    found).1

-- the entry that comes next is of a cell and of a net
pub next_fits : (flat : Flat) (rest now : List Entry) (done : List Entry) (e : Entry)
    → NumbersFit flat → entries flat.pins ≡ done ++ rest → rest ≡ e ∷ now
    → IsCellOf flat e.0.0 × IsNetOf flat e.1
next_fits flat rest now done e fits is step =
    at_next (λ e. IsCellOf flat e.0.0 × IsNetOf flat e.1) done e now
    (subst (AllByRecursion (λ e. IsCellOf flat e.0.0 × IsNetOf flat e.1))
    (is ∙ ap (λ es. done ++ es) step) fits.pins)

-- and it is what the design says of its pin
own_net : (flat : Flat) (rest now : List Entry) (done : List Entry) (e : Entry) (cell : FlatCell)
    (net : NamedNet) → AllDiffer (map (λ cell. cell.name) flat.cells)
    → entries flat.pins ≡ done ++ rest → rest ≡ e ∷ now → slice_get flat.cells e.0.0 ≡ Some cell
    → named_net flat e.1 ≡ Some net → net_at flat cell.name e.0.1 ≡ Some net
own_net flat rest now done e cell net differ is step at told =
    ap (option_and_then (λ c. option_and_then (named_net flat) (get flat.pins (c, e.0.1))))
    (named_here flat.cells e.0.0 cell differ at)
    ∙ ap (option_and_then (named_net flat)) (got_there flat.pins done e now
    (is ∙ ap (λ es. done ++ es) step)) ∙ told

-- so the test of the other design's net says whether they agree there
module _ (own other : Flat) (rest now : List Entry) (done : List Entry) (e : Entry)
    (cell : FlatCell) (net : NamedNet) (t : Bool)
    (differ : AllDiffer (map (λ cell. cell.name) own.cells))
    (is : entries own.pins ≡ done ++ rest) (step : rest ≡ e ∷ now)
    (at : slice_get own.cells e.0.0 ≡ Some cell) (told : named_net own e.1 ≡ Some net)
    (decides : Decides t (net_at other cell.name e.0.1 ≡ Some net)) where
  pub nets_agree : t ≡ true
      → AgreesAt own other (record { cell = cell.name; pin = e.0.1 })
  nets_agree passed = own_net own rest now done e cell net differ is step at told
      ∙ sym (decides.0 passed)

  pub nets_differ : t ≡ false
      → ¬ AgreesAt own other (record { cell = cell.name; pin = e.0.1 })
  nets_differ failed agrees = false≢true (sym failed ∙ decides.1
      (sym agrees ∙ own_net own rest now done e cell net differ is step at told))

-- its names are names
pub names_there : (names : List Text) (flat : Flat) (rest now : List Entry) (done : List Entry)
    (e : Entry) (cell : FlatCell) → IsNamed (length names) flat
    → entries flat.pins ≡ done ++ rest → rest ≡ e ∷ now → slice_get flat.cells e.0.0 ≡ Some cell
    → ArePinNames names (record { cell = cell.name; pin = e.0.1 })
names_there names flat rest now done e cell named is step at = record {
  cell = named.cells e.0.0 cell at;
  pin = at_next (λ e. e.0.1 < length names) done e now
      (subst (AllByRecursion (λ e. e.0.1 < length names))
      (is ∙ ap (λ es. done ++ es) step) named.pins);
}

module _ (names : List Text) (Agrees : PinName → Type 0) (flat : Flat) where
  abbrev pub PinsFrom : List Entry → Option PinName → Type 0
  PinsFrom rest first = (done : List Entry) × (entries flat.pins ≡ done ++ rest)
      × IsEarliest (pin_name_order names) (ArePinNames names) Agrees (IsAmong flat.cells done) first

  -- the pin of an entry
  of_entry : (e : Entry) (cell : FlatCell) (k : PinName) → slice_get flat.cells e.0.0 ≡ Some cell
      → IsPinOf flat.cells k e → k ≡ record { cell = cell.name; pin = e.0.1 }
  of_entry e cell k at of =
      let same : of.0 ≡ cell = same_Some of.0 cell (sym of.1 ∙ at) in
      λ i. record { cell = (sym of.2 ∙ ap (λ c. c.name) same) i; pin = sym of.3 i }

  next : (done : List Entry) (e : Entry) (cell : FlatCell)
      → slice_get flat.cells e.0.0 ≡ Some cell → (k : PinName)
      → IsAmong flat.cells (done ++ e ∷ []) k
      → IsAmong flat.cells done k ⊎ (k ≡ record { cell = cell.name; pin = e.0.1 })
  next done e cell at k among = elim (among_next flat.cells done e k among) [
    | inl before ↦ inl before
    | inr here ↦ inr (of_entry e cell k at here)
  ]

  pub pin_differs : (rest now : List Entry) (e : Entry) (cell : FlatCell)
      (first new : Option PinName) → IsNamed (length names) flat → rest ≡ e ∷ now
      → slice_get flat.cells e.0.0 ≡ Some cell
      → ¬ Agrees (record { cell = cell.name; pin = e.0.1 })
      → new ≡ earlier (pin_name_order names) first (Some (record { cell = cell.name; pin = e.0.1 }))
      → PinsFrom rest first → PinsFrom now new
  pin_differs rest now e cell first new named step at differs new_is h = (
    h.0 ++ e ∷ [],
    one_done (entries flat.pins) h.0 rest now e h.1 step,
    subst (IsEarliest (pin_name_order names) (ArePinNames names) Agrees
        (IsAmong flat.cells (h.0 ++ e ∷ []))) (sym new_is)
        (one_more (pin_name_order names) (ArePinNames names) Agrees (pin_name_order_total names)
        (IsAmong flat.cells h.0) (IsAmong flat.cells (h.0 ++ e ∷ [])) first
        (record { cell = cell.name; pin = e.0.1 })
        (names_there names flat rest now h.0 e cell named h.1 step at) differs
        (next h.0 e cell at) h.2),
  )

  pub pin_agrees : (rest now : List Entry) (e : Entry) (cell : FlatCell) (first : Option PinName)
      → rest ≡ e ∷ now → slice_get flat.cells e.0.0 ≡ Some cell
      → Agrees (record { cell = cell.name; pin = e.0.1 }) → PinsFrom rest first
      → PinsFrom now first
  pin_agrees rest now e cell first step at agrees h = (
    h.0 ++ e ∷ [],
    one_done (entries flat.pins) h.0 rest now e h.1 step,
    none_more (pin_name_order names) (ArePinNames names) Agrees (IsAmong flat.cells h.0)
        (IsAmong flat.cells (h.0 ++ e ∷ [])) first (record { cell = cell.name; pin = e.0.1 }) agrees
        (next h.0 e cell at) h.2,
  )

  pub pins_done : (rest : List Entry) (first : Option PinName) → rest ≡ [] → PinsFrom rest first
      → IsEarliest (pin_name_order names) (ArePinNames names) Agrees (IsPinIn flat) first
  pins_done rest first none h = wider (pin_name_order names) (ArePinNames names) Agrees
      (IsAmong flat.cells h.0) (IsPinIn flat) first
      (λ k on. inl (subst (λ es. IsAmong flat.cells es k)
      (all_done (entries flat.pins) h.0 rest h.1 none) (among_all flat k on))) h.2

pub first_pin_is : (names : List Text) (a b : Flat) (x y first : Option PinName)
    → IsEarliest (pin_name_order names) (ArePinNames names) (AgreesAt a b) (IsPinIn a) x
    → IsEarliest (pin_name_order names) (ArePinNames names) (AgreesAt b a) (IsPinIn b) y
    → first ≡ earlier (pin_name_order names) x y
    → IsEarliest (pin_name_order names) (ArePinNames names) (AgreesAt a b) Any first
first_pin_is names a b x y first in_a in_b is =
    subst (IsEarliest (pin_name_order names) (ArePinNames names) (AgreesAt a b) Any) (sym is)
    (wider (pin_name_order names) (ArePinNames names) (AgreesAt a b)
    (λ k. IsPinIn a k ⊎ IsPinIn b k) Any (earlier (pin_name_order names) x y)
    (λ k any. pins_seen a b k)
    (joined (pin_name_order names) (ArePinNames names) (AgreesAt a b) (pin_name_order_total names)
    (IsPinIn a) (IsPinIn b) x y in_a
    (by_word (pin_name_order names) (ArePinNames names) (AgreesAt b a) (AgreesAt a b) (IsPinIn b) y
    (λ k agrees. sym agrees) (λ k agrees. sym agrees) in_b)))
