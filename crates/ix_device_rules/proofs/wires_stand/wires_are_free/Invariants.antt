use Rattle.std.proofs.Common.{take, Ok}
use Rattle.std.specs.List.{flat_map}
use Rattle.ix_device_rules.specs.Walks.{Walks}
use Rattle.ix_device_rules.specs.TileWires.{wire_is_free}
use Rattle.ix_device_rules.proofs.wires_stand.wires_are_free.Given as goal

abbrev pub invariant-loop-i : goal.invariant-loop-i
invariant-loop-i l =
    Walks {X = Unit {0}} (flat_map (wire_is_free l.wires l.taken) (take l.i l.node.wires)) l.fn.walk (Ok tt) l.walk
