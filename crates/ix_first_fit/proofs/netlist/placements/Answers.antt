use Rattle.ix_first_fit.proofs.Netlists.{placed_step}
use Rattle.ix_first_fit.proofs.netlist.placements.Goals as goal

pub placement-requires : goal.placement-requires
placement-requires c = (c.requires.fit.each c.loop-i.i c.at.result.now c.at-in-loop-i.result.now c.at.ensures c.at-in-loop-i.ensures).admitted

pub loop-i-preserved : goal.loop-i-preserved
loop-i-preserved c =
    placed_step c.args.device.now c.args.cells.now c.args.spots.now c.loop-i.i c.loop-i.all c.push.new.self c.at.result.now c.at-in-loop-i.result.now c.in_ok-placement.field-0 c.at.ensures c.at-in-loop-i.ensures c.loop-i.invariant
    c.in_ok-placement.ensures
    c.in_ok-push.ensures.ok
