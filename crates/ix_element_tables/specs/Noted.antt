-- What is noted of elements.
use Rattle.std.specs.Prelude.{◌≡◌, ◌<◌, ℕ, List, slice_get, Option, Some, None, IsSome}
use Rattle.ix_message.specs.Shape.{Text}
use Rattle.ix_num.specs.Numbers.{NameNumber}
use Rattle.ix_first.specs.First.{value_of}
use Rattle.ix_first.specs.declared.by_id.FirstById.{FirstById}
use Rattle.ix_rec.specs.declared.device.DeviceRec.{DeviceRec}
use Rattle.ix_rec.specs.declared.phys.CellPlacement.{CellPlacement}
use Rattle.ix_rec.specs.declared.phys.Phys.{Phys}
use Rattle.ix_lut.specs.Places.{ElementBits}
use Rattle.ix_legal.specs.Legal.{IsSound}
use Rattle.ix_legal.specs.Names.{IsNamed}
use Rattle.ix_legal.specs.Placements.{IsPlaced}
use Rattle.ix_legal.specs.Sites.{ElementNumber, lut_cell_of}
use Rattle.ix_legal.specs.Spots.{Everywhere}
use Rattle.ix_lut_places.specs.Places.{ArePlaces}
use Rattle.ix_lut_places.specs.declared.places.LutPlaces.{LutPlaces}
use Rattle.ix_table_keys.specs.Tables.{TellsTable}
use Rattle.ix_element_numbers.specs.Numbers.{AreNumbers, IsNumber}
use Rattle.ix_element_numbers.specs.declared.numbers.ElementNumbers.{ElementNumbers}
use Rattle.ix_element_tables.specs.Kept.{IsPlacedIn, HasSomeLut}

-- the netlist keeps L1 and L2, and its elements have numbers
pub record IsReady (names : List Text) (rec : DeviceRec) (phys : Phys) (places : LutPlaces)
    (numbers : ElementNumbers) : Type 0 where
  pub sound : IsSound names phys
  pub named : Everywhere (IsNamed names rec phys)
  pub placed : Everywhere (IsPlaced rec phys)
  pub places_are : ArePlaces rec places
  pub numbers_are : AreNumbers rec phys numbers

-- none of the first so many placements is of a LUT in this element
abbrev pub HasNoLutAmong : DeviceRec → Phys → (count : ℕ) → (site : NameNumber) → ElementNumber
    → Type 0
HasNoLutAmong rec phys count site element = (k : ℕ) (placement : CellPlacement) → k < count
    → slice_get phys.placements k ≡ Some placement → IsPlacedIn rec site element placement
    → lut_cell_of rec placement.ty ≡ None

-- what is noted of an element: nothing, or the bits of its table, or that it has none
abbrev pub TellsElement : List Text → DeviceRec → Phys → (count : ℕ) → (site : NameNumber)
    → ElementNumber → Option (Option ElementBits) → Type 0
TellsElement names rec phys count site element None = HasNoLutAmong rec phys count site element
TellsElement names rec phys count site element (Some bits) = HasSomeLut rec phys site element
    × TellsTable names phys site element bits

-- so is noted of all elements, for the first so many placements
pub record AreNoted (names : List Text) (rec : DeviceRec) (phys : Phys)
    (numbers : ElementNumbers) (count : ℕ) (tables : FirstById (Option ElementBits)) : Type 0 where
  pub room : (number : ℕ) → number < numbers.count → IsSome (value_of tables number)
  pub each : (i site element number : ℕ) (noted : Option (Option ElementBits))
      → number < numbers.count → IsNumber rec phys i site element number
      → value_of tables number ≡ Some noted
      → TellsElement names rec phys count site element noted
