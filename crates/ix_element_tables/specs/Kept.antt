-- What L9 asks, placement by placement.
use Rattle.std.specs.Prelude.{◌≡◌, ◌⊎◌, ℕ, List, slice_get, Some}
use Rattle.ix_message.specs.Shape.{Text}
use Rattle.ix_num.specs.Numbers.{NameNumber}
use Rattle.ix_rec.specs.declared.device.DeviceRec.{DeviceRec}
use Rattle.ix_rec.specs.declared.device.LutCell.{LutCell}
use Rattle.ix_rec.specs.declared.phys.CellPlacement.{CellPlacement}
use Rattle.ix_rec.specs.declared.phys.Phys.{Phys}
use Rattle.ix_lut.specs.Places.{ElementBits}
use Rattle.ix_lut.specs.Tables.{TableBits}
use Rattle.ix_legal.specs.LutTables.{HasLut, IsFunction}
use Rattle.ix_legal.specs.Sites.{ElementNumber, element_at}
use Rattle.ix_legal.specs.TableKeys.{HasTable}

-- a cell is placed in an element of a site
pub record IsPlacedIn (rec : DeviceRec) (site : NameNumber) (element : ElementNumber)
    (placement : CellPlacement) : Type 0 where
  pub site_is : placement.site ≡ site
  pub place : ℕ
  pub is_in : element_at rec placement.site placement.bel ≡ Some (element, place)

-- a LUT is placed in it
pub record HasSomeLut (rec : DeviceRec) (phys : Phys) (site : NameNumber)
    (element : ElementNumber) : Type 0 where
  pub place : ℕ
  pub placement : CellPlacement
  pub lut : LutCell
  pub has : HasLut rec phys site element place placement lut

-- its table gives a placed cell a function
pub record HasFunction (names : List Text) (rec : DeviceRec) (phys : Phys) (site : NameNumber)
    (element : ElementNumber) (placement : CellPlacement) : Type 0 where
  pub bits : ElementBits
  pub has_table : HasTable names phys site element bits
  pub function : TableBits
  pub is_function : IsFunction rec phys placement bits function

-- What is asked of a cell that is placed in an element: that the element has no LUT, or that its
-- table gives the cell a function.
abbrev pub KeepsTable : List Text → DeviceRec → Phys → (site : NameNumber) → ElementNumber
    → CellPlacement → Type 0
KeepsTable names rec phys site element placement = ¬ HasSomeLut rec phys site element
    ⊎ HasFunction names rec phys site element placement

-- the same of the placement of this number, and an element of its site
abbrev pub KeepsTableAt : List Text → DeviceRec → Phys → (k : ℕ) → ElementNumber → Type 0
KeepsTableAt names rec phys k element = (placement : CellPlacement)
    → slice_get phys.placements k ≡ Some placement
    → KeepsTable names rec phys placement.site element placement
