-- Entries of a pin map, and the inputs of a LUT, as tests.
use Rattle.std.specs.Prelude.{◌≡◌, ◌<◌, ℕ, List, length, slice_get, Bool, false, ◌&&◌, ◌||◌, nat_eq}
use Rattle.std.specs.Prelude.{Option, Some, None, option_map, option_and_then, IfSome}
use Rattle.std.specs.List.{list_any}
use Rattle.ix_num.specs.Numbers.{NameNumber, SiteTypeNumber, BelNumber, BelPinNumber}
use Rattle.ix_rec.specs.declared.device.DeviceRec.{DeviceRec}
use Rattle.ix_rec.specs.declared.device.LutBel.{LutBel}
use Rattle.ix_rec.specs.declared.device.LutCell.{LutCell}
use Rattle.ix_rec.specs.declared.phys.CellPlacement.{CellPlacement}
use Rattle.ix_rec.specs.declared.phys.PinMapping.{PinMapping}
use Rattle.ix_device.specs.Lookups.{in_type, bel_in, bel_pin_in}
use Rattle.ix_lut.specs.Tables.{InputPlace}
use Rattle.ix_legal.specs.Sites.{type_at, lut_bel_at}
use Rattle.ix_legal.specs.Placements.{MapsInputs}
use Rattle.ix_pin_maps.specs.declared.marks.Mark.{Mark}
use Rattle.ix_pin_maps.specs.Marks.{pin_under, has_pin}

-- the site type of a site and the BEL in it, by their names
abbrev pub bel_place : DeviceRec → (site bel : NameNumber) → Option (SiteTypeNumber × BelNumber)
bel_place rec site bel = option_and_then (λ t.
    option_map (λ b. (t, b)) (in_type (bel_in bel) rec t)) (type_at rec site)

-- a BEL of a site type
pub record IsBel (rec : DeviceRec) (t : SiteTypeNumber) (bel : BelNumber) : Type 0 where
  pub type_inside : t < length rec.site_type_list
  pub bel_inside : IfSome (slice_get rec.site_type_list t) (λ ty. bel < length ty.bels)

-- a cell pin was put on this BEL pin
abbrev pub is_under : (turn : ℕ) → List Mark → (cell_pin : NameNumber) → Option BelPinNumber → Bool
is_under turn marks cell_pin (Some pin) = has_pin (pin_under turn marks cell_pin) pin
is_under turn marks cell_pin None = false

-- an entry of the pin map of a cell on this BEL is one of those that were put
abbrev pub is_put : DeviceRec → SiteTypeNumber → BelNumber → (turn : ℕ) → List Mark → PinMapping
    → Bool
is_put rec t bel turn marks entry =
    is_under turn marks entry.cell_pin (in_type (bel_pin_in bel entry.bel_pin) rec t)

-- an entry is of an input of this LUT; of a plain cell none is
abbrev pub is_input : Option LutCell → PinMapping → Bool
is_input (Some lut) entry = list_any (nat_eq entry.cell_pin) lut.input_pins
is_input None entry = false

-- an entry fits
abbrev pub entry_fits : DeviceRec → SiteTypeNumber → BelNumber → (turn : ℕ) → List Mark
    → Option LutCell → (own : NameNumber) → PinMapping → Bool
entry_fits rec t bel turn marks lut own entry =
    nat_eq entry.bel own && (is_input lut entry || is_put rec t bel turn marks entry)

-- each input of a LUT is mapped once, and to an input of its own of its BEL
pub record HasPlaces (rec : DeviceRec) (placement : CellPlacement) (lut : LutCell) : Type 0 where
  pub bel : LutBel
  pub bel_is : lut_bel_at rec placement.site placement.bel ≡ Some bel
  pub places : List InputPlace
  pub inputs : MapsInputs lut bel placement places

abbrev pub InputsFit : DeviceRec → CellPlacement → Option LutCell → Type 0
InputsFit rec placement None = Unit {0}
InputsFit rec placement (Some lut) = HasPlaces rec placement lut
