use Rattle.std.specs.List.{flat_map}
use Rattle.ix_device_rules.proofs.Steps.{walks_first, walks_stop_first}
use Rattle.ix_device_rules.specs.TileWires.{wire_is_free}
use Rattle.ix_device_rules.proofs.wires_stand.node_stands.Goals as goal

pub returns-in-Err-clause-walks : goal.returns-in-Err-clause-walks
returns-in-Err-clause-walks c = walks_stop_first (flat_map (wire_is_free c.args.wires.now c.args.taken.now) c.args.node.now.wires) _ c.in-Err.ensures

pub returns-in-Err-wires_are_free-clause-walks : goal.returns-in-Err-wires_are_free-clause-walks
returns-in-Err-wires_are_free-clause-walks c = walks_first c.in-Ok.ensures c.in-Err-wires_are_free.ensures

pub returns-in-Ok-take_wires-clause-walks : goal.returns-in-Ok-take_wires-clause-walks
returns-in-Ok-take_wires-clause-walks c = walks_first c.in-Ok.ensures c.in-Ok-wires_are_free.ensures
