-- What is told of a rule.
use Rattle.std.specs.Prelude.{◌≡◌}
use Rattle.ix_message.specs.Shape.{Text}
use Rattle.ix_rec.specs.declared.place.Rule.{Rule}
use Rattle.ix_asked.specs.declared.fault.DesignFault.{DesignFault}
use Rattle.ix_asked.specs.declared.fault.DesignFault.TheVariants.{Broken, Memory}

-- the rule is told with a text that is so, or want of memory
abbrev pub IsToldAs : Rule → (Is : Text → Type 0) → DesignFault → Type 0
IsToldAs rule Is (Broken told word) = (told ≡ rule) × Is word
IsToldAs rule Is Memory = Unit {0}
