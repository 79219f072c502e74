-- L2: cells, BELs and sites are used once. L3: pin maps fit the device.
use Rattle.std.specs.Prelude.{◌≡◌, ◌⊎◌, ℕ, List, [], ◌∷◌, map, take, length, slice_get, Contains}
use Rattle.std.specs.Prelude.{Bool, true, false, ◌&&◌, nat_eq, Option, Some, None, IsSome}
use Rattle.std.specs.List.{AllByRecursion, list_any, filter}
use Rattle.ix_num.specs.Numbers.{NameNumber, BelPinNumber}
use Rattle.ix_rec.specs.declared.device.DeviceRec.{DeviceRec}
use Rattle.ix_rec.specs.declared.device.LutBel.{LutBel}
use Rattle.ix_rec.specs.declared.device.LutCell.{LutCell}
use Rattle.ix_rec.specs.declared.phys.Phys.{Phys}
use Rattle.ix_rec.specs.declared.phys.CellPlacement.{CellPlacement}
use Rattle.ix_rec.specs.declared.phys.PinMapping.{PinMapping}
use Rattle.ix_rec.specs.declared.phys.SiteInstance.{SiteInstance}
use Rattle.ix_device_rules.specs.Rules.{is_new}
use Rattle.ix_device.specs.Lookups.{site_type_number}
use Rattle.ix_lut.specs.Tables.{InputPlace, AllDiffer}
use Rattle.ix_legal.specs.Sites.{type_at, bel_pin_at, pins_at, lut_cell_of, lut_bel_at}
use Rattle.ix_legal.specs.Spots.{Spot, AskedOf, InstanceAt, PlacementAt}

-- a site has an instance
abbrev pub has_instance : Phys → (site : NameNumber) → Bool
has_instance phys site = list_any (λ i. nat_eq i.site site) phys.site_insts

-- a cell is placed on this BEL of this site
abbrev pub is_on : (site bel : NameNumber) → CellPlacement → Bool
is_on site bel placement = nat_eq placement.site site && nat_eq placement.bel bel

-- one of these cells is
abbrev pub has_cell : List CellPlacement → (site bel : NameNumber) → Bool
has_cell placements site bel = list_any (is_on site bel) placements

-- L2, of a site instance: no instance before it is of its site, and it is used as the site's own
-- type.
pub record InstanceFits (rec : DeviceRec) (before : List SiteInstance) (instance : SiteInstance)
    : Type 0 where
  pub alone : is_new (map (λ i. i.site) before) instance.site ≡ true
  pub own_type : site_type_number rec instance.ty ≡ type_at rec instance.site

-- L2, of a placement: none before it is of its cell or on its BEL, the BEL admits the cell, and the
-- site has an instance.
pub record PlacementFits (rec : DeviceRec) (phys : Phys) (before : List CellPlacement)
    (placement : CellPlacement) : Type 0 where
  pub cell_alone : is_new (map (λ m. m.cell_name) before) placement.cell_name ≡ true
  pub bel_alone : has_cell before placement.site placement.bel ≡ false
  pub admits : IsSome (pins_at rec placement.ty placement.site placement.bel)
  pub in_use : has_instance phys placement.site ≡ true

abbrev pub IsPlaced : DeviceRec → Phys → Spot → Type 0
IsPlaced rec phys (InstanceAt i) =
    AskedOf phys.site_insts i (InstanceFits rec (take i phys.site_insts))
IsPlaced rec phys (PlacementAt i) =
    AskedOf phys.placements i (PlacementFits rec phys (take i phys.placements))
IsPlaced rec phys spot = Unit {0}

-- L3, of a placement. An entry of a pin map is one of the device's own map for the cell type there.
pub record IsOfDevice (rec : DeviceRec) (placement : CellPlacement) (entry : PinMapping)
    : Type 0 where
  pub pins : List (NameNumber × BelPinNumber)
  pub pins_are : pins_at rec placement.ty placement.site placement.bel ≡ Some pins
  pub pin : BelPinNumber
  pub pin_is : bel_pin_at rec placement.site entry.bel entry.bel_pin ≡ Some pin
  pub listed : Contains pins (entry.cell_pin, pin)

-- the BEL pins on which a pin map has this cell pin
abbrev pub pins_for : CellPlacement → (cell_pin : NameNumber) → List NameNumber
pins_for placement cell_pin = map (λ e. e.bel_pin)
    (filter (λ e. nat_eq e.cell_pin cell_pin) placement.pin_map)

-- Each input of a LUT cell is mapped once, and to an input of its own of the LUT BEL: these are
-- their places among the BEL's inputs.
pub record MapsInputs (lut : LutCell) (bel : LutBel) (placement : CellPlacement)
    (places : List InputPlace) : Type 0 where
  pub all : length places ≡ length lut.input_pins
  pub each : (i : ℕ) (input : NameNumber) (place : InputPlace)
      → slice_get lut.input_pins i ≡ Some input → slice_get places i ≡ Some place
      → (pin : NameNumber) × (slice_get bel.input_pins place ≡ Some pin)
      × (pins_for placement input ≡ pin ∷ [])
  pub own : AllDiffer places

-- an input of the LUT cell
abbrev pub IsInput : LutCell → PinMapping → Type 0
IsInput lut entry = list_any (nat_eq entry.cell_pin) lut.input_pins ≡ true

-- the pin map of a LUT
pub record LutMapFits (rec : DeviceRec) (placement : CellPlacement) (lut : LutCell) : Type 0 where
  pub bel : LutBel
  pub bel_is : lut_bel_at rec placement.site placement.bel ≡ Some bel
  pub places : List InputPlace
  pub inputs : MapsInputs lut bel placement places
  pub others : AllByRecursion (λ e. IsInput lut e ⊎ IsOfDevice rec placement e) placement.pin_map

-- the pin map of a plain cell, or of a LUT
abbrev pub PinsFit : DeviceRec → CellPlacement → Option LutCell → Type 0
PinsFit rec placement None = AllByRecursion (IsOfDevice rec placement) placement.pin_map
PinsFit rec placement (Some lut) = LutMapFits rec placement lut

pub record PinMapFits (rec : DeviceRec) (placement : CellPlacement) : Type 0 where
  pub own_bel : AllByRecursion (λ e. e.bel ≡ placement.bel) placement.pin_map
  pub pins : PinsFit rec placement (lut_cell_of rec placement.ty)

abbrev pub MapsPins : DeviceRec → Phys → Spot → Type 0
MapsPins rec phys (PlacementAt i) = AskedOf phys.placements i (PinMapFits rec)
MapsPins rec phys spot = Unit {0}
