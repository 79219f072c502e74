use Rattle.std.proofs.Common.{take, map}
use Rattle.ix_keys.specs.Keys.{name_key}
use Rattle.ix_device_rules.specs.Rules.{each_by_earlier, wire_names}
use Rattle.ix_device_rules.proofs.LoopFacts.{Asked}
use Rattle.ix_device_rules.proofs.names_differ.wires_differ.Given as goal

abbrev pub invariant-loop-i : goal.invariant-loop-i
invariant-loop-i l =
    Asked (each_by_earlier wire_names (take l.i l.wires)) l.fn.walk l.walk (map (λ w. name_key w) (take l.i l.wires)) l.names
