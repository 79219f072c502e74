use Rattle.ix_device_rules.proofs.Steps.{asked_as, flat_none, flat_more, flat_stops}
use Rattle.ix_device_rules.specs.TileWires.{wire_is_free}
use Rattle.ix_device_rules.proofs.wires_stand.wires_are_free.Goals as goal

pub loop-i-init : goal.loop-i-init
loop-i-init c = flat_none (wire_is_free c.args.wires.now c.args.taken.now) (c.args.node.now.wires) c.args.walk.now

pub loop-i-preserved : goal.loop-i-preserved
loop-i-preserved c =
    flat_more (wire_is_free c.args.wires.now c.args.taken.now) (c.args.node.now.wires) c.loop-i.i c.at.result.now c.at.ensures c.loop-i.invariant (asked_as c.is_free-free.ensures c.in-Ok.ensures)

pub returns-in-Err : goal.returns-in-Err
returns-in-Err c =
    flat_stops (wire_is_free c.args.wires.now c.args.taken.now) (c.args.node.now.wires) _ c.loop-i.i c.at.result.now c.at.ensures c.loop-i.invariant (asked_as c.is_free-free.ensures c.in-Err.ensures)
