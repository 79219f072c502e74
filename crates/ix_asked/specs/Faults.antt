-- What is answered where there is no flat design.
use Rattle.std.specs.Prelude.{◌≡◌, List}
use Rattle.ix_message.specs.Shape.{Text}
use Rattle.ix_rec.specs.declared.device.DeviceRec.{DeviceRec}
use Rattle.ix_rec.specs.declared.netlist.NetlistRec.{NetlistRec}
use Rattle.ix_rec.specs.declared.place.Rule.{Rule}
use Rattle.ix_asked.specs.declared.fault.DesignFault.{DesignFault}
use Rattle.ix_asked.specs.declared.fault.DesignFault.TheVariants.{Broken, Memory}
use Rattle.ix_hierarchy.specs.Broken.{IsBroken}

-- Want of memory may be told at any time.
abbrev pub IsDesignFault : List Text → DeviceRec → NetlistRec → DesignFault → Type 0
IsDesignFault names rec design (Broken rule word) = IsBroken names rec design rule word
IsDesignFault names rec design Memory = Unit {0}

-- the rule is told with this text, or want of memory
abbrev pub IsTold : Rule → Text → DesignFault → Type 0
IsTold rule text (Broken told word) = (told ≡ rule) × (word ≡ text)
IsTold rule text Memory = Unit {0}
