-- The earliest of the keys at which two designs differ, as far as keys were seen.
use Rattle.std.specs.Prelude.{◌≡◌, ◌<◌, ℕ, List, length, slice_get, Option, Some, None}
use Rattle.std.specs.Prelude.{if◌then◌else◌}
use Rattle.std.specs.Cmp.Lexicographic.{slice_cmp}
use Rattle.std.specs.FinMap.{get}
use Rattle.std.specs.Option.{option_cmp}
use Rattle.std.specs.Ordering.{is_lt, nat_cmp, ordering_then}
use Rattle.std.specs.declared.cmp.Ordering.{Ordering}
use Rattle.std.specs.declared.cmp.Ordering.TheVariants.{Less}
use Rattle.ix_message.specs.Shape.{Text}
use Rattle.ix_num.specs.Numbers.{NameNumber}
use Rattle.ix_num.specs.declared.resource.NetRef.{NetRef}
use Rattle.ix_rec.specs.declared.flow.Flat.{Flat}
use Rattle.ix_rec.specs.declared.flow.FlatCell.{FlatCell}
use Rattle.ix_differences.specs.Differences.{AgreesOnCell, AgreesOnPin, AgreesOnTable}
use Rattle.ix_differences.specs.declared.agrees.Asked.{Asked}
use Rattle.ix_differences.specs.declared.agrees.Asked.TheVariants.{Cells, Tables}
use Rattle.ix_differences.specs.declared.earliest.PinName.{PinName}

-- names by their texts; what isn't a name comes first
abbrev pub name_order : List Text → NameNumber → NameNumber → Ordering
name_order names m n = option_cmp (slice_cmp nat_cmp) (slice_get names m) (slice_get names n)

-- pins by the names of their cells, and then by their own
abbrev pub pin_name_order : List Text → PinName → PinName → Ordering
pin_name_order names x y = ordering_then (name_order names x.cell y.cell)
    (name_order names x.pin y.pin)

abbrev pub IsName : List Text → NameNumber → Type 0
IsName names name = name < length names

abbrev pub AreNamed : List Text → List FlatCell → Type 0
AreNamed names cells = (q : ℕ) (cell : FlatCell) → slice_get cells q ≡ Some cell
    → IsName names cell.name

pub record ArePinNames (names : List Text) (at : PinName) : Type 0 where
  pub cell : IsName names at.cell
  pub pin : IsName names at.pin

module _ {K : Type 0} where
  -- the earlier one of two, where there are two
  abbrev pub earlier : (K → K → Ordering) → Option K → Option K → Option K
  earlier R None y = y
  earlier R (Some x) None = Some x
  earlier R (Some x) (Some y) = if is_lt (R y x) then Some y else Some x

  -- a key that is named, at which they differ, and before which they don't at keys that were seen
  pub record IsFirst (R : K → K → Ordering) (Named Agrees Seen : K → Type 0) (key : K)
      : Type 0 where
    pub named : Named key
    pub differs : ¬ Agrees key
    pub agrees_before : (k : K) → Seen k → R k key ≡ Less → Agrees k

  -- the first of the keys that were seen; none where they agree at all of these
  abbrev pub IsEarliest : (R : K → K → Ordering) → (Named Agrees Seen : K → Type 0) → Option K
      → Type 0
  IsEarliest R Named Agrees Seen None = (k : K) → Seen k → Agrees k
  IsEarliest R Named Agrees Seen (Some key) = IsFirst R Named Agrees Seen key

-- what is asked at the name of a cell
abbrev pub AgreesOn : Asked → Flat → Flat → NameNumber → Type 0
AgreesOn Cells a b name = AgreesOnCell a b name
AgreesOn Tables a b name = AgreesOnTable a b name

abbrev pub AgreesAt : Flat → Flat → PinName → Type 0
AgreesAt a b at = AgreesOnPin a b at.cell at.pin

-- a name of one of these cells
abbrev pub IsNameIn : List FlatCell → NameNumber → Type 0
IsNameIn cells name = (q : ℕ) × (cell : FlatCell) × (slice_get cells q ≡ Some cell)
    × (cell.name ≡ name)

-- the names of a pin that is on a net, and of its cell
abbrev pub IsPinIn : Flat → PinName → Type 0
IsPinIn flat at = (q : ℕ) × (cell : FlatCell) × (net : NetRef)
    × (slice_get flat.cells q ≡ Some cell) × (cell.name ≡ at.cell)
    × (get flat.pins (q, at.pin) ≡ Some net)
