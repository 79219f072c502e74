use Rattle.std.proofs.Common.{take}
use Rattle.std.specs.List.{flat_map}
use Rattle.ix_device_rules.specs.Rules
use Rattle.ix_device_rules.proofs.LoopFacts.{Asked}
use Rattle.ix_device_rules.specs.TileWires.{node_keys}
use Rattle.ix_device_rules.proofs.wires_stand.nodes_stand.Given as goal

abbrev pub invariant-loop-i : goal.invariant-loop-i
invariant-loop-i l =
    Asked (Rules.each_by_earlier (Rules.node_wires l.rec) (take l.i l.rec.nodes)) l.fn.walk l.walk (flat_map (node_keys l.rec.wires) (take l.i l.rec.nodes)) l.taken
