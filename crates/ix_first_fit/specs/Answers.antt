-- What first fit answers.
use Rattle.std.specs.Prelude.{◌≡◌, List, length}
use Rattle.ix_rec.specs.declared.device.DeviceRec.{DeviceRec}
use Rattle.ix_rec.specs.declared.phys.Phys.{Phys}
use Rattle.ix_rec.specs.declared.flow.FlatCell.{FlatCell}
use Rattle.ix_first_fit.specs.declared.cell.Spot.{Spot}
use Rattle.ix_first_fit.specs.declared.fault.FitFault.{FitFault}
use Rattle.ix_first_fit.specs.declared.fault.FitFault.TheVariants.{TooFewBels, NoSite, Memory}
use Rattle.ix_first_fit.specs.Fit.{FitFirst, AllSuffice, IsTooFew, IsStuck}
use Rattle.ix_first_fit.specs.Netlist.{IsNetlist}

-- No type has too few BELs, every cell has a place by first fit, and the netlist says so.
pub record IsFitted (rec : DeviceRec) (cells : List FlatCell) (phys : Phys) : Type 0 where
  pub enough : AllSuffice rec cells
  pub places : List Spot
  pub fit : FitFirst rec cells places
  pub count : length places ≡ length cells
  pub netlist : IsNetlist rec cells places phys

-- Want of memory may be told at any time.
abbrev pub IsFitFault : DeviceRec → List FlatCell → FitFault → Type 0
IsFitFault rec cells (TooFewBels kind n bels) = IsTooFew rec cells kind n bels
IsFitFault rec cells (NoSite k) = IsStuck rec cells k
IsFitFault rec cells Memory = Unit {0}
