use Rattle.ix_device_rules.specs.Rules
use Rattle.ix_device_rules.proofs.Steps.{flat_none, flat_more, flat_stops}
use Rattle.ix_device_rules.proofs.wires_stand.each_wire_stands.Goals as goal

pub loop-i-init : goal.loop-i-init
loop-i-init c = flat_none (Rules.wire_stands c.args.rec.now) (c.args.rec.now.wires) c.args.walk.now

pub loop-i-preserved : goal.loop-i-preserved
loop-i-preserved c =
    flat_more (Rules.wire_stands c.args.rec.now) (c.args.rec.now.wires) c.loop-i.i c.at.result.now c.at.ensures c.loop-i.invariant (c.in-Ok.ensures)

pub returns-in-Err : goal.returns-in-Err
returns-in-Err c =
    flat_stops (Rules.wire_stands c.args.rec.now) (c.args.rec.now.wires) _ c.loop-i.i c.at.result.now c.at.ensures c.loop-i.invariant (c.in-Err.ensures)
