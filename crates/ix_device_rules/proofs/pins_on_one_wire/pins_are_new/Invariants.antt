use Rattle.std.proofs.Common.{take, map, ◌++◌}
use Rattle.ix_keys.specs.Keys.{name_key}
use Rattle.ix_device_rules.specs.Rules
use Rattle.ix_device_rules.proofs.LoopFacts.{Asked}
use Rattle.ix_device_rules.specs.Named.{pin_is_new}
use Rattle.ix_device_rules.proofs.pins_on_one_wire.pins_are_new.Given as goal

abbrev pub invariant-loop-i : goal.invariant-loop-i
invariant-loop-i l =
    Asked (Rules.each_by_earlier (pin_is_new l.fn.seen) (take l.i l.pins)) l.fn.walk l.walk (l.fn.seen ++ map (λ p. name_key p) (take l.i l.pins)) l.seen
