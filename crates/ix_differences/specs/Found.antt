-- The difference that is found.
use Rattle.std.specs.Prelude.{List, Option, Some, None}
use Rattle.ix_message.specs.Shape.{Text}
use Rattle.ix_rec.specs.declared.flow.Flat.{Flat}
use Rattle.ix_differences.specs.Differences.{Agree, AgreesOnCell, AgreesOnTable, AllCellsAgree}
use Rattle.ix_differences.specs.Differences.{AllPinsAgree}
use Rattle.ix_differences.specs.Earliest.{AgreesAt, ArePinNames, IsFirst, IsName, name_order}
use Rattle.ix_differences.specs.Earliest.{pin_name_order}
use Rattle.ix_differences.specs.declared.found.Difference.{Difference}
use Rattle.ix_differences.specs.declared.found.Difference.TheVariants.{AtCell, AtPin, AtTable}

-- of all keys the first
abbrev pub Any : {K : Type 0} → K → Type 0
Any k = Unit {0}

-- the first difference, by the numbers of its names
abbrev pub IsFound : List Text → (a b : Flat) → Difference → Type 0
IsFound names a b (AtCell cell) =
    IsFirst (name_order names) (IsName names) (AgreesOnCell a b) Any cell
IsFound names a b (AtPin pin) = AllCellsAgree a b
    × IsFirst (pin_name_order names) (ArePinNames names) (AgreesAt a b) Any pin
IsFound names a b (AtTable cell) = AllCellsAgree a b × AllPinsAgree a b
    × IsFirst (name_order names) (IsName names) (AgreesOnTable a b) Any cell

abbrev pub IsVerdict : List Text → (a b : Flat) → Option Difference → Type 0
IsVerdict names a b None = Agree a b
IsVerdict names a b (Some difference) = IsFound names a b difference

-- its numbers are those of names
abbrev pub IsInside : List Text → Difference → Type 0
IsInside names (AtCell cell) = IsName names cell
IsInside names (AtPin pin) = ArePinNames names pin
IsInside names (AtTable cell) = IsName names cell
