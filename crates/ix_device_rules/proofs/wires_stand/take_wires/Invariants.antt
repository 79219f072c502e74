use Rattle.std.proofs.Common.{take, ◌++◌}
use Rattle.std.specs.List.{flat_map}
use Rattle.ix_device_rules.specs.Tables.{SameKeys}
use Rattle.ix_device_rules.specs.TileWires.{wire_keys}
use Rattle.ix_device_rules.proofs.wires_stand.take_wires.Given as goal

abbrev pub invariant-loop-i : goal.invariant-loop-i
invariant-loop-i l =
    SameKeys l.taken (l.fn.taken ++ flat_map (wire_keys l.wires) (take l.i l.node.wires))
