use Rattle.std.proofs.Common.{take, Ok}
use Rattle.std.specs.List.{flat_map}
use Rattle.ix_device_rules.specs.Rules
use Rattle.ix_device_rules.specs.Walks.{Walks}
use Rattle.ix_device_rules.proofs.lut_elements.pass_elements.Given as goal

abbrev pub invariant-loop-i : goal.invariant-loop-i
invariant-loop-i l =
    Walks {X = Unit {0}} (flat_map (Rules.element_passed) (take l.i l.elements)) l.fn.walk (Ok tt) l.walk
