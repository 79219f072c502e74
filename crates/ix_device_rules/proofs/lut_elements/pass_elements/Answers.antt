use Rattle.ix_device_rules.specs.Rules
use Rattle.ix_device_rules.proofs.Steps.{flat_none, flat_more, flat_stops}
use Rattle.ix_device_rules.proofs.lut_elements.pass_elements.Goals as goal

pub loop-i-init : goal.loop-i-init
loop-i-init c = flat_none (Rules.element_passed) (c.args.elements.now) c.args.walk.now

pub loop-i-preserved : goal.loop-i-preserved
loop-i-preserved c =
    flat_more (Rules.element_passed) (c.args.elements.now) c.loop-i.i c.at.result.now c.at.ensures c.loop-i.invariant (c.in-Ok.ensures)

pub returns-in-Err : goal.returns-in-Err
returns-in-Err c =
    flat_stops (Rules.element_passed) (c.args.elements.now) _ c.loop-i.i c.at.result.now c.at.ensures c.loop-i.invariant (c.in-Err.ensures)
