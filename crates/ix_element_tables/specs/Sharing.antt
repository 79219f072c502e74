-- What L9 stands on of the rule that a resource has one holder.
use Rattle.ix_rec.specs.declared.device.DeviceRec.{DeviceRec}
use Rattle.ix_rec.specs.declared.phys.Phys.{Phys}
use Rattle.ix_legal.specs.declared.level.Level.{Level}
use Rattle.ix_legal.specs.Sharing.{IsUnshared}
use Rattle.ix_legal.specs.Spots.{Everywhere}

-- the netlist keeps L7 at a level
abbrev pub KeepsSharing : DeviceRec → Phys → Type 0
KeepsSharing rec phys = (level : Level) × Everywhere (IsUnshared level rec phys)
