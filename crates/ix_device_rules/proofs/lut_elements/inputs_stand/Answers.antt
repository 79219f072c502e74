use Rattle.ix_device_rules.proofs.Steps.{asked_as, flat_none, flat_more, flat_stops}
use Rattle.ix_device_rules.specs.Luts.{parts_of, input_by}
use Rattle.ix_device_rules.proofs.lut_elements.inputs_stand.Goals as goal

pub loop-i-init : goal.loop-i-init
loop-i-init c = flat_none (input_by (parts_of c.args.parts.now) c.args.bel) (c.args.pins.now) c.args.walk.now

pub loop-i-preserved : goal.loop-i-preserved
loop-i-preserved c =
    flat_more (input_by (parts_of c.args.parts.now) c.args.bel) (c.args.pins.now) c.loop-i.i c.at.result.now c.at.ensures c.loop-i.invariant (asked_as c.has_pin-there.ensures c.in-Ok.ensures)

pub returns-in-Err : goal.returns-in-Err
returns-in-Err c =
    flat_stops (input_by (parts_of c.args.parts.now) c.args.bel) (c.args.pins.now) _ c.loop-i.i c.at.result.now c.at.ensures c.loop-i.invariant (asked_as c.has_pin-there.ensures c.in-Err.ensures)
