use Rattle.std.proofs.Common.{arith}
use Rattle.ix_device_rules.specs.Rules
use Rattle.ix_device_rules.proofs.Steps.{flat_none, flat_more, flat_stops, flat_done}
use Rattle.ix_device_rules.proofs.pins_on_one_wire.pins_are_on_one_wire.Goals as goal

pub loop-i-init : goal.loop-i-init
loop-i-init c = flat_none (Rules.pins_of_site_wires) (c.args.rec.now.site_type_list) c.args.walk.now

pub loop-i-preserved : goal.loop-i-preserved
loop-i-preserved c =
    flat_more (Rules.pins_of_site_wires) (c.args.rec.now.site_type_list) c.loop-i.i c.at.result.now c.at.ensures c.loop-i.invariant (c.in-Ok.ensures)

pub returns-in-Err : goal.returns-in-Err
unfolding Rules.pins_are_on_one_wire
returns-in-Err c =
    flat_stops (Rules.pins_of_site_wires) (c.args.rec.now.site_type_list) _ c.loop-i.i c.at.result.now c.at.ensures c.loop-i.invariant (c.in-Err.ensures)

pub returns : goal.returns
unfolding Rules.pins_are_on_one_wire
returns c = flat_done (Rules.pins_of_site_wires) (c.args.rec.now.site_type_list) c.loop-i.i (omega arith) c.loop-i.invariant
