use Rattle.std.proofs.Common.{take, map}
use Rattle.ix_keys.specs.Keys.{key}
use Rattle.ix_device_rules.specs.Rules.{each_by_earlier, bel_pin_names}
use Rattle.ix_device_rules.proofs.LoopFacts.{Asked}
use Rattle.ix_device_rules.proofs.names_differ.bel_pins_differ.Given as goal

abbrev pub invariant-loop-i : goal.invariant-loop-i
invariant-loop-i l =
    Asked (each_by_earlier (bel_pin_names l.site_type) (take l.i l.site_type.bel_pins)) l.fn.walk l.walk (map (λ p. key 0 p.bel p.name) (take l.i l.site_type.bel_pins)) l.pins
