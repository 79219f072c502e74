-- What follows from the definitions on the inputs of placed LUTs.
use Rattle.std.specs.Prelude.{◌≡◌, List, Some, IsSome}
use Rattle.ix_rec.specs.declared.device.DeviceRec.{DeviceRec}
use Rattle.ix_rec.specs.declared.device.LutBel.{LutBel}
use Rattle.ix_rec.specs.declared.device.LutCell.{LutCell}
use Rattle.ix_rec.specs.declared.phys.CellPlacement.{CellPlacement}
use Rattle.ix_lut.specs.Tables.{InputPlace, AllDiffer}
use Rattle.ix_legal.specs.Sites.{pins_at, lut_cell_of, lut_bel_at}
use Rattle.ix_legal.specs.Placements.{MapsInputs}

-- A pin map has a LUT's inputs at one list of places at most.
abbrev pub PlacesAreOne : Type 0
PlacesAreOne = (lut : LutCell) (bel : LutBel) (placement : CellPlacement)
    → AllDiffer bel.input_pins → (one other : List InputPlace)
    → MapsInputs lut bel placement one → MapsInputs lut bel placement other → one ≡ other

-- The inputs of a BEL that admits a LUT differ.
abbrev pub InputsDiffer : Type 0
InputsDiffer = (rec : DeviceRec) (placement : CellPlacement) (lut : LutCell) (bel : LutBel)
    → IsSome (pins_at rec placement.ty placement.site placement.bel)
    → lut_cell_of rec placement.ty ≡ Some lut
    → lut_bel_at rec placement.site placement.bel ≡ Some bel → AllDiffer bel.input_pins
