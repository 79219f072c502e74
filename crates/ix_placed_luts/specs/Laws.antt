-- What follows from the definitions on the functions of placed LUTs.
use Rattle.std.specs.Prelude.{◌≡◌}
use Rattle.ix_rec.specs.declared.device.DeviceRec.{DeviceRec}
use Rattle.ix_rec.specs.declared.phys.Phys.{Phys}
use Rattle.ix_rec.specs.declared.phys.CellPlacement.{CellPlacement}
use Rattle.ix_lut.specs.Tables.{TableBits}
use Rattle.ix_lut.specs.Places.{ElementBits}
use Rattle.ix_legal.specs.LutTables.{IsFunction}

-- A placed LUT has one function at most.
abbrev pub FunctionIsOne : Type 0
FunctionIsOne = (rec : DeviceRec) (phys : Phys) (placement : CellPlacement) (bits : ElementBits)
    (one other : TableBits) → IsFunction rec phys placement bits one
    → IsFunction rec phys placement bits other → one ≡ other
