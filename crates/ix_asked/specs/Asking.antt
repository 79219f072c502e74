-- What a step of asking tells.
use Rattle.std.specs.Prelude.{◌≡◌, List, []}
use Rattle.ix_message.specs.Shape.{Text}
use Rattle.ix_rec.specs.declared.device.DeviceRec.{DeviceRec}
use Rattle.ix_rec.specs.declared.netlist.NetlistRec.{NetlistRec}
use Rattle.ix_rec.specs.declared.place.Rule.TheVariants.{N10}
use Rattle.ix_asked.specs.Faults.{IsDesignFault}
use Rattle.ix_asked.specs.declared.fault.DesignFault.{DesignFault}
use Rattle.ix_asked.specs.declared.fault.DesignFault.TheVariants.{Broken, Memory}
use Rattle.ix_hierarchy.specs.Broken.{BreaksN10}

-- of any device
abbrev pub IsFault : List Text → NetlistRec → DesignFault → Type 0
IsFault names design fault = (rec : DeviceRec) → IsDesignFault names rec design fault

abbrev pub IsTooLarge : NetlistRec → DesignFault → Type 0
IsTooLarge design (Broken rule word) = (rule ≡ N10) × (word ≡ []) × BreaksN10 design
IsTooLarge design Memory = Unit {0}
