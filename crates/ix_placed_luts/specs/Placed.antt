-- A placed LUT, by number.
use Rattle.std.specs.Prelude.{◌≡◌, ℕ, List, Some}
use Rattle.ix_num.specs.Numbers.{SiteNumber, SiteTypeNumber, BelNumber}
use Rattle.ix_rec.specs.declared.device.DeviceRec.{DeviceRec}
use Rattle.ix_rec.specs.declared.device.LutBel.{LutBel}
use Rattle.ix_rec.specs.declared.device.LutCell.{LutCell}
use Rattle.ix_rec.specs.declared.phys.CellPlacement.{CellPlacement}
use Rattle.ix_device.specs.Elements.{element_of_bel}
use Rattle.ix_device.specs.Lookups.{site_named, type_of_site, in_type, bel_in}
use Rattle.ix_device.specs.Shapes.{shape_in, shape_seen}
use Rattle.ix_lut.specs.Shapes.{IsUsable}
use Rattle.ix_lut.specs.Tables.{InputPlace}
use Rattle.ix_lut.specs.declared.shape.ElementShape.{ElementShape}
use Rattle.ix_legal.specs.Sites.{ElementNumber, lut_cell_of}
use Rattle.ix_legal.specs.Placements.{MapsInputs}
use Rattle.ix_lut_places.specs.Places.{lut_bel_in}

-- a LUT is placed on the BEL at this place of an element of this shape, its inputs at these places
pub record IsPlaced (rec : DeviceRec) (placement : CellPlacement) (site : SiteNumber)
    (t : SiteTypeNumber) (bel : BelNumber) (lut_bel : LutBel) (shape : ElementShape) (place : ℕ)
    (places : List InputPlace) : Type 0 where
  pub lut : LutCell
  pub lut_is : lut_cell_of rec placement.ty ≡ Some lut
  pub site_is : site_named rec placement.site ≡ Some site
  pub type_is : type_of_site rec site ≡ Some t
  pub bel_is : in_type (bel_in placement.bel) rec t ≡ Some bel
  pub element : ElementNumber
  pub at : in_type (element_of_bel rec bel) rec t ≡ Some (element, place)
  pub lut_bel_is : in_type (lut_bel_in rec bel) rec t ≡ Some lut_bel
  pub shape_is : in_type (shape_in rec element) rec t ≡ Some (shape_seen shape)
  pub usable : IsUsable shape
  pub inputs : MapsInputs lut lut_bel placement places
