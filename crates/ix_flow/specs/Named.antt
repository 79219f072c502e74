-- Devices, designs and cells, as the code has them.
use Rattle.std.specs.Prelude.{◌≡◌, ◌<◌, List, length}
use Rattle.ix_frame.specs.Segments.{Segments}
use Rattle.ix_message.specs.Shape.{Struct, Text}
use Rattle.ix_rec.specs.declared.device.DeviceRec.{DeviceRec}
use Rattle.ix_rec.specs.declared.flow.Flat.{Flat}
use Rattle.ix_rec.specs.declared.flow.FlatCell.{FlatCell}
use Rattle.ix_rec.specs.declared.phys.Phys.{Phys}
use Rattle.ix_rec.specs.declared.netlist.NetlistRec.{NetlistRec}
use Rattle.ix_first_fit.specs.declared.fault.FitFault.{FitFault}
use Rattle.ix_first_fit.specs.declared.fault.FitFault.TheVariants.{TooFewBels, NoSite, Memory}
use Rattle.ix_rec.specs.declared.place.File.{File}
use Rattle.ix_rec.specs.declared.place.Place.{Place}
use Rattle.ix_rec.specs.declared.place.Rule.{Rule}
use Rattle.ix_report.specs.declared.report.Report.TheVariants.{Bad}
use Rattle.ix_job.specs.declared.stop.Stop.{Stop}
use Rattle.ix_job.specs.declared.stop.Stop.TheVariants.{Refused, Memory as NoMemory}
use Rattle.ix_flow.specs.Answer.{NamedDevice, NamedDesign, NamedFlat, NamedCells}
use Rattle.ix_flow.specs.CheckAnswer.{NamedPhys}
use Rattle.ix_flow.specs.Answer.{BreaksReading}

abbrev pub named_device : List Text → DeviceRec → NamedDevice
named_device names rec = record { names = names; rec = rec }

abbrev pub named_design : List Text → NetlistRec → NamedDesign
named_design names rec = record { names = names; rec = rec }

abbrev pub named_flat : List Text → Flat → NamedFlat
named_flat names flat = record { names = names; flat = flat }

abbrev pub named_cells : List Text → List FlatCell → NamedCells
named_cells names cells = record { names = names; cells = cells }

abbrev pub named_phys : List Text → Phys → NamedPhys
named_phys names phys = record { names = names; phys = phys }

-- a fault of first fit speaks of a name and of a cell that are there
abbrev pub IsFaultNamed : List Text → List FlatCell → FitFault → Type 0
IsFaultNamed names cells (TooFewBels kind n bels) = kind < length names
IsFaultNamed names cells (NoSite k) = k < length cells
IsFaultNamed names cells Memory = Unit {0}

-- a file is refused for the first rule that it breaks as it is read, or memory is wanting
abbrev pub TellsUnread : File → Struct → Segments → Stop → Type 0
TellsUnread file message all (Refused report) = (rule : Rule) × (place : Place)
    × BreaksReading message all rule place × (report ≡ Bad file rule place)
TellsUnread file message all NoMemory = Unit {0}
