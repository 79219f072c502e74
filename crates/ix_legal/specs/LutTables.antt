-- L9: LUT elements have tables that give their LUTs functions.
use Rattle.std.specs.Prelude.{◌≡◌, ◌↔◌, ℕ, List, length, slice_get, Contains, Some, IsSome}
use Rattle.ix_message.specs.Shape.{Text}
use Rattle.ix_num.specs.Numbers.{NameNumber, SiteNumber, SiteWireNumber}
use Rattle.ix_num.specs.declared.resource.NetRef.TheVariants as holders
use Rattle.ix_num.specs.declared.resource.Res.{Res}
use Rattle.ix_num.specs.declared.resource.Res.TheVariants.{Wire}
use Rattle.ix_rec.specs.declared.device.DeviceRec.{DeviceRec}
use Rattle.ix_rec.specs.declared.device.LutBel.{LutBel}
use Rattle.ix_rec.specs.declared.device.LutCell.{LutCell}
use Rattle.ix_rec.specs.declared.phys.Phys.{Phys}
use Rattle.ix_rec.specs.declared.phys.CellPlacement.{CellPlacement}
use Rattle.ix_rec.specs.declared.phys.PhysNet.{PhysNet}
use Rattle.ix_rec.specs.declared.phys.SiteInstance.{SiteInstance}
use Rattle.ix_device.specs.Lookups.{site_named}
use Rattle.ix_device.specs.Shapes.{BelSeen, ShapeSeen}
use Rattle.ix_lut.specs.Tables.{TableBits, InputPlace, IsTable}
use Rattle.ix_lut.specs.Places.{LineNumber, LutPlace, Held, ElementBits, GivesFunction}
use Rattle.ix_lut.specs.declared.shape.Tie.{Tie}
use Rattle.ix_lut.specs.declared.shape.Tie.TheVariants as ties
use Rattle.ix_legal.specs.Sites.{ElementNumber, lut_cell_of, lut_bel_at, element_at}
use Rattle.ix_legal.specs.Sites.{shape_at, lines_at}
use Rattle.ix_legal.specs.Holders.{Holds}
use Rattle.ix_legal.specs.TableKeys.{HasTable}
use Rattle.ix_legal.specs.Placements.{MapsInputs}
use Rattle.ix_legal.specs.Spots.{Spot, AskedOf, ElementAt}

-- a cell is placed on the BEL at this place of this element of a site
pub record IsInElement (rec : DeviceRec) (phys : Phys) (site : NameNumber)
    (element : ElementNumber) (place : ℕ) (placement : CellPlacement) : Type 0 where
  pub placed : Contains phys.placements placement
  pub site_is : placement.site ≡ site
  pub bel_is : element_at rec placement.site placement.bel ≡ Some (element, place)

-- the same of a LUT
pub record HasLut (rec : DeviceRec) (phys : Phys) (site : NameNumber) (element : ElementNumber)
    (place : ℕ) (placement : CellPlacement) (lut : LutCell) : Type 0 where
  pub is_in : IsInElement rec phys site element place placement
  pub lut_is : lut_cell_of rec placement.ty ≡ Some lut

-- A placed LUT: its element, and its BEL's place there; the BEL as the element's shape has it, and
-- where the pin map has the LUT's inputs.
pub record IsLutOn (rec : DeviceRec) (placement : CellPlacement) (lut : LutCell)
    (element : ElementNumber) (place : ℕ) (on : LutPlace) : Type 0 where
  pub lut_is : lut_cell_of rec placement.ty ≡ Some lut
  pub is_in : element_at rec placement.site placement.bel ≡ Some (element, place)
  pub bel : LutBel
  pub bel_is : lut_bel_at rec placement.site placement.bel ≡ Some bel
  pub inputs : MapsInputs lut bel placement on.places
  pub shape : ShapeSeen
  pub shape_is : shape_at rec placement.site element ≡ Some shape
  pub seen : BelSeen
  pub seen_is : slice_get shape.bels place ≡ Some seen
  pub low : on.low ≡ seen.low
  pub lines : on.lines ≡ seen.lines

-- a wire is held so: by the net of a constant, or by none of the two
pub record IsHeld (rec : DeviceRec) (nets : List PhysNet) (wire : Res) (tie : Tie) : Type 0 where
  pub gnd : (tie ≡ ties.Gnd) ↔ Holds rec nets wire holders.Gnd
  pub vcc : (tie ≡ ties.Vcc) ↔ Holds rec nets wire holders.Vcc

-- so are the wires of the inputs that a LUT on an element of a site doesn't use
pub record AreHeld (rec : DeviceRec) (nets : List PhysNet) (site : NameNumber)
    (element : ElementNumber) (on : LutPlace) (held : Held) : Type 0 where
  pub number : SiteNumber
  pub site_is : site_named rec site ≡ Some number
  pub wires : List SiteWireNumber
  pub wires_are : lines_at rec site element ≡ Some wires
  pub each : (input : InputPlace) (line : LineNumber) (wire : SiteWireNumber)
      → ¬ Contains on.places input → slice_get on.lines input ≡ Some line
      → slice_get wires line ≡ Some wire
      → IsHeld rec nets (Wire number wire) (held line)

-- The function of a placed LUT, where the table of its element has these bits: whatever the values
-- of the inputs that it doesn't use, as long as they agree with the constants that hold their wires.
pub record IsFunction (rec : DeviceRec) (phys : Phys) (placement : CellPlacement)
    (bits : ElementBits) (function : TableBits) : Type 0 where
  pub lut : LutCell
  pub element : ElementNumber
  pub place : ℕ
  pub on : LutPlace
  pub is_on : IsLutOn rec placement lut element place on
  pub held : Held
  pub are_held : AreHeld rec phys.nets placement.site element on held
  pub is_table : IsTable (length lut.input_pins) function
  pub gives : GivesFunction on held bits function

-- L9, of an element of a site with an instance: where a LUT is placed in it, no plain cell is, and
-- it has a table, which gives each of its LUTs a function.
pub record ElementFits (names : List Text) (rec : DeviceRec) (phys : Phys) (site : NameNumber)
    (element : ElementNumber) : Type 0 where
  pub no_plain : (place : ℕ) (placement : CellPlacement)
      → IsInElement rec phys site element place placement → IsSome (lut_cell_of rec placement.ty)
  pub bits : ElementBits
  pub has_table : HasTable names phys site element bits
  pub functions : (place : ℕ) (placement : CellPlacement) (lut : LutCell)
      → HasLut rec phys site element place placement lut
      → (function : TableBits) × IsFunction rec phys placement bits function

abbrev pub TableFits : List Text → DeviceRec → Phys → ElementNumber → SiteInstance → Type 0
TableFits names rec phys element instance = (place : ℕ) (placement : CellPlacement) (lut : LutCell)
    → HasLut rec phys instance.site element place placement lut
    → ElementFits names rec phys instance.site element

abbrev pub IsTabled : List Text → DeviceRec → Phys → Spot → Type 0
IsTabled names rec phys (ElementAt i element) =
    AskedOf phys.site_insts i (TableFits names rec phys element)
IsTabled names rec phys spot = Unit {0}
