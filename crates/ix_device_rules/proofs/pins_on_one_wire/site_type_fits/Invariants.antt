use Rattle.std.proofs.Common.{take, map}
use Rattle.std.specs.List.{flat_map}
use Rattle.ix_keys.specs.Keys.{name_key}
use Rattle.ix_device_rules.specs.Rules
use Rattle.ix_device_rules.proofs.LoopFacts.{Asked}
use Rattle.ix_device_rules.proofs.pins_on_one_wire.site_type_fits.Given as goal

abbrev pub invariant-loop-i : goal.invariant-loop-i
invariant-loop-i l =
    Asked (Rules.each_by_earlier Rules.site_wire_pins (take l.i l.site_type.site_wires)) l.fn.walk l.walk (map (λ p. name_key p) (flat_map (λ w. w.pins) (take l.i l.site_type.site_wires))) l.seen
