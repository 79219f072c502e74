-- The first inputs of a LUT in a pin map.
use Rattle.std.specs.Prelude.{◌≡◌, ℕ, List, [], ◌∷◌, length, map, slice_get, Option, Some, None}
use Rattle.std.specs.Prelude.{nat_eq}
use Rattle.std.specs.List.{filter}
use Rattle.ix_num.specs.Numbers.{NameNumber}
use Rattle.ix_rec.specs.declared.device.LutBel.{LutBel}
use Rattle.ix_rec.specs.declared.device.LutCell.{LutCell}
use Rattle.ix_rec.specs.declared.phys.CellPlacement.{CellPlacement}
use Rattle.ix_rec.specs.declared.phys.PinMapping.{PinMapping}
use Rattle.ix_lut.specs.Tables.{InputPlace, AllDiffer}
use Rattle.ix_legal.specs.Placements.{pins_for}

-- the BEL pins on which these entries have a cell pin
abbrev pub pins_among : List PinMapping → (cell_pin : NameNumber) → List NameNumber
pins_among entries cell_pin =
    map (λ e. e.bel_pin) (filter (λ e. nat_eq e.cell_pin cell_pin) entries)

-- as a list
abbrev pub listed : Option NameNumber → List NameNumber
listed None = []
listed (Some pin) = pin ∷ []

-- the first so many inputs of a LUT are mapped once, and each to an input of its own of the BEL, at
-- these places
pub record MapsFirst (lut : LutCell) (bel : LutBel) (placement : CellPlacement) (count : ℕ)
    (places : List InputPlace) : Type 0 where
  pub many : length places ≡ count
  pub each : (i : ℕ) (input : NameNumber) (place : InputPlace)
      → slice_get lut.input_pins i ≡ Some input → slice_get places i ≡ Some place
      → (pin : NameNumber) × (slice_get bel.input_pins place ≡ Some pin)
      × (pins_for placement input ≡ pin ∷ [])
  pub own : AllDiffer places
