-- The elements in which LUTs are placed, and what these force, placement by placement.
use Rattle.std.specs.Prelude.{◌≡◌, ◌<◌, ◌↔◌, ℕ, nat_eq, slice_get, Option, Some, None}
use Rattle.std.specs.Prelude.{option_and_then, option_map}
use Rattle.std.specs.FinMap.{FinMap, get}
use Rattle.std.specs.Int.{bit_at}
use Rattle.std.specs.List.{position}
use Rattle.ix_num.specs.Numbers.{NameNumber, SiteTypeNumber, BelNumber}
use Rattle.ix_rec.specs.Maps.{pin_order}
use Rattle.ix_rec.specs.declared.device.DeviceRec.{DeviceRec}
use Rattle.ix_rec.specs.declared.device.LutCell.{LutCell}
use Rattle.ix_rec.specs.declared.flow.Flat.{Flat}
use Rattle.ix_rec.specs.declared.phys.CellPlacement.{CellPlacement}
use Rattle.ix_rec.specs.declared.phys.Phys.{Phys}
use Rattle.ix_device.specs.Elements.{element_of_bel}
use Rattle.ix_device.specs.Lookups.{site_named, type_of_site, in_type, bel_in}
use Rattle.ix_device.specs.Shapes.{shape_in}
use Rattle.ix_first.specs.declared.by_id.FirstById.{FirstById}
use Rattle.ix_legal.specs.Sites.{ElementNumber, lut_cell_of, element_at}
use Rattle.ix_lut_places.specs.Places.{ArePlaces}
use Rattle.ix_lut_places.specs.declared.places.LutPlaces.{LutPlaces}
use Rattle.ix_table_keys.specs.Places.{ArePlacesByName, site_of}
use Rattle.ix_fill_tables.specs.Completed.{IsForcedBy}
use Rattle.ix_fill_tables.specs.Holdings.{AreHoldings}
use Rattle.ix_fill_tables.specs.Told.{AreTold}
use Rattle.ix_fill_tables.specs.declared.constants.ConstantWires.{ConstantWires}
use Rattle.ix_fill_tables.specs.declared.forcing.ForcedBits.{ForcedBits}
use Rattle.ix_fill_tables.specs.declared.told.ToldTables.{ToldTables}

-- the tables by which elements are filled
pub record IsReady (rec : DeviceRec) (flat : Flat) (phys : Phys) (names : ℕ) (places : LutPlaces)
    (instances : FirstById ℕ) (constants : ConstantWires) (told : ToldTables) : Type 0 where
  pub places_are : ArePlaces rec places
  pub instances_are : ArePlacesByName site_of phys.site_insts names instances
  pub constants_are : AreHoldings rec phys.nets constants.holdings
  pub told_are : AreTold flat names told

-- an element's number, where it is usable
abbrev pub where_usable : DeviceRec → SiteTypeNumber → (at : ElementNumber × ℕ)
    → Option ElementNumber
where_usable rec t at = option_map (λ shape. at.0) (in_type (shape_in rec at.0) rec t)

-- the usable element of a BEL
abbrev pub element_with : DeviceRec → SiteTypeNumber → BelNumber → Option ElementNumber
element_with rec t bel = option_and_then (where_usable rec t)
    (in_type (element_of_bel rec bel) rec t)

-- that of a cell on a site of this type
abbrev pub element_in : DeviceRec → CellPlacement → SiteTypeNumber → Option ElementNumber
element_in rec placement t = option_and_then (element_with rec t)
    (in_type (bel_in placement.bel) rec t)

-- the usable element in which a cell is placed, by the site's own type
abbrev pub usable_element : DeviceRec → CellPlacement → Option ElementNumber
usable_element rec placement = option_and_then (λ site.
    option_and_then (element_in rec placement) (type_of_site rec site))
    (site_named rec placement.site)

-- bits so far, or none
abbrev pub bits_so_far : Option ForcedBits → ForcedBits
bits_so_far None = record { ones = 0; zeros = 0 }
bits_so_far (Some forced) = forced

-- the first instance of a site
abbrev pub first_instance : Phys → NameNumber → Option ℕ
first_instance phys site = position (λ x. nat_eq (site_of x) site) phys.site_insts

-- A LUT is placed in this usable element of this instance, which is the first of its site.
pub record IsPlacedIn (rec : DeviceRec) (phys : Phys) (placement : CellPlacement) (i : ℕ)
    (element : ElementNumber) : Type 0 where
  pub lut : LutCell
  pub lut_is : lut_cell_of rec placement.ty ≡ Some lut
  pub element_is : usable_element rec placement ≡ Some element
  pub instance_is : first_instance phys placement.site ≡ Some i

-- what is told of where a placement is
abbrev pub TellsElement : DeviceRec → Phys → CellPlacement → Option (ℕ × ElementNumber) → Type 0
TellsElement rec phys placement (Some at) = IsPlacedIn rec phys placement at.0 at.1
TellsElement rec phys placement None = (i : ℕ) (element : ElementNumber)
    → ¬ IsPlacedIn rec phys placement i element

-- the bits that a placement forces
pub record AreForcedBy (rec : DeviceRec) (phys : Phys) (flat : Flat) (placement : CellPlacement)
    (forced : ForcedBits) : Type 0 where
  pub ones : (element : ElementNumber) (place : ℕ)
      → element_at rec placement.site placement.bel ≡ Some (element, place) → (at : ℕ)
      → (bit_at forced.ones at ≡ 1) ↔ IsForcedBy rec phys flat element placement at 1
  pub zeros : (element : ElementNumber) (place : ℕ)
      → element_at rec placement.site placement.bel ≡ Some (element, place) → (at : ℕ)
      → (bit_at forced.zeros at ≡ 1) ↔ IsForcedBy rec phys flat element placement at 0

-- what is told of them: none where it forces none
abbrev pub TellsForced : DeviceRec → Phys → Flat → CellPlacement → Option ForcedBits → Type 0
TellsForced rec phys flat placement (Some forced) = AreForcedBy rec phys flat placement forced
TellsForced rec phys flat placement None = (element : ElementNumber) (at bit : ℕ)
    → ¬ IsForcedBy rec phys flat element placement at bit

-- one of the first so many placements is there
pub record HasPlacement (rec : DeviceRec) (phys : Phys) (count i : ℕ) (element : ElementNumber)
    : Type 0 where
  pub k : ℕ
  pub before : k < count
  pub placement : CellPlacement
  pub placement_is : slice_get phys.placements k ≡ Some placement
  pub is_in : IsPlacedIn rec phys placement i element

-- and forces a bit so
pub record IsForcedAmong (rec : DeviceRec) (phys : Phys) (flat : Flat) (count i : ℕ)
    (element : ElementNumber) (at bit : ℕ) : Type 0 where
  pub there : HasPlacement rec phys count i element
  pub forces : IsForcedBy rec phys flat element there.placement at bit

-- what the first so many placements force in an element
pub record AreForcedThere (rec : DeviceRec) (phys : Phys) (flat : Flat) (count i : ℕ)
    (element : ElementNumber) (forced : ForcedBits) : Type 0 where
  pub there : HasPlacement rec phys count i element
  pub ones : (at : ℕ) → (bit_at forced.ones at ≡ 1)
      ↔ IsForcedAmong rec phys flat count i element at 1
  pub zeros : (at : ℕ) → (bit_at forced.zeros at ≡ 1)
      ↔ IsForcedAmong rec phys flat count i element at 0

abbrev pub TellsThere : DeviceRec → Phys → Flat → (count i : ℕ) → ElementNumber
    → Option ForcedBits → Type 0
TellsThere rec phys flat count i element (Some forced) =
    AreForcedThere rec phys flat count i element forced
TellsThere rec phys flat count i element None = ¬ HasPlacement rec phys count i element

-- of all elements
abbrev pub AreForced : DeviceRec → Phys → Flat → (count : ℕ) → FinMap pin_order ForcedBits
    → Type 0
AreForced rec phys flat count forced = (i : ℕ) (element : ElementNumber)
    → TellsThere rec phys flat count i element (get forced (i, element))
