use Rattle.std.proofs.Common.{take, ◌++◌}
use Rattle.std.specs.List.{flat_map}
use Rattle.ix_device_rules.specs.Rules
use Rattle.ix_device_rules.proofs.LoopFacts.{Asked}
use Rattle.ix_device_rules.specs.Luts.{parts_of, element_keys, element_after}
use Rattle.ix_device_rules.proofs.lut_elements.elements_stand.Given as goal

abbrev pub invariant-loop-i : goal.invariant-loop-i
invariant-loop-i l =
    Asked (Rules.each_by_earlier (element_after (parts_of l.parts) l.fn.seen) (take l.i l.elements)) l.fn.walk l.walk (l.fn.seen ++ flat_map (element_keys l.parts.name) (take l.i l.elements)) l.seen
