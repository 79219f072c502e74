use Rattle.ix_device_rules.proofs.Steps.{flat_none, flat_more, flat_stops}
use Rattle.ix_device_rules.specs.Luts.{parts_of, lut_bel_by}
use Rattle.ix_device_rules.proofs.lut_elements.lut_bels_stand.Goals as goal

pub loop-i-init : goal.loop-i-init
loop-i-init c = flat_none (lut_bel_by (parts_of c.args.parts.now) c.args.seen.now c.args.element.now.width) (c.args.element.now.bels) c.args.walk.now

pub loop-i-preserved : goal.loop-i-preserved
loop-i-preserved c =
    flat_more (lut_bel_by (parts_of c.args.parts.now) c.args.seen.now c.args.element.now.width) (c.args.element.now.bels) c.loop-i.i c.at.result.now c.at.ensures c.loop-i.invariant (c.in-Ok.ensures)

pub returns-in-Err : goal.returns-in-Err
returns-in-Err c =
    flat_stops (lut_bel_by (parts_of c.args.parts.now) c.args.seen.now c.args.element.now.width) (c.args.element.now.bels) _ c.loop-i.i c.at.result.now c.at.ensures c.loop-i.invariant (c.in-Err.ensures)
