use Rattle.std.proofs.Common.{◌<◌, length, arith}
use Rattle.ix_device_rules.specs.Luts.{passed_bel}
use Rattle.ix_device_rules.proofs.Steps.{flat_none, flat_more, flat_stops, there_is}
use Rattle.ix_device_rules.proofs.lut_elements.pass_bels.Goals as goal

pub loop-init : goal.loop-init
loop-init c = flat_none passed_bel c.args.element.now.bels c.args.walk.now

pub loop-preserved : goal.loop-preserved
loop-preserved c =
    let bels = c.args.element.now.bels in
    let lt : c.loop.counter < length bels = omega arith in
    let here = there_is bels c.loop.counter lt in
    flat_more passed_bel bels c.loop.counter here.0 here.1 c.loop.invariant c.in-Ok.ensures

pub returns-in-Err : goal.returns-in-Err
returns-in-Err c =
    let bels = c.args.element.now.bels in
    let lt : c.loop.counter < length bels = omega arith in
    let here = there_is bels c.loop.counter lt in
    flat_stops passed_bel bels _ c.loop.counter here.0 here.1 c.loop.invariant c.in-Err.ensures
