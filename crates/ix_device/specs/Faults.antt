-- Why a record is no device.
use Rattle.std.specs.Prelude.{Option}
use Rattle.ix_message.specs.Indexes.{Item}
use Rattle.ix_rec.specs.declared.place.Rule.{Rule}
use Rattle.ix_device_rules.specs.Broken.{IsBreach}
use Rattle.ix_device.specs.declared.check.DeviceFault.{DeviceFault}
use Rattle.ix_device.specs.declared.check.DeviceFault.TheVariants.{Broken, Memory}

-- A broken rule is the first, at its first place. Want of memory may be told at any time.
abbrev pub IsFault : Option (Rule × Item) → DeviceFault → Type 0
IsFault given (Broken rule place) = IsBreach given rule place
IsFault given Memory = Unit {0}
