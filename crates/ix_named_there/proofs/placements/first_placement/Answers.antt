use Rattle.ix_walk.specs.Listed.{one_more_fits}
use Rattle.ix_named_there.specs.Parts.{PlacementNamedAt}
use Rattle.ix_named_there.proofs.placements.first_placement.Goals as goal

pub loop-i-preserved : goal.loop-i-preserved
loop-i-preserved c = one_more_fits (PlacementNamedAt c.args.device.now) c.args.placements.now
    c.loop-i.i c.at.result.now c.at.ensures c.loop-i.invariant
    (c.is_named.ensures.0 c.if-not-is_named.false)
