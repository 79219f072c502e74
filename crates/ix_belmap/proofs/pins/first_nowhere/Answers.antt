use Rattle.ix_belmap.proofs.Failures.{none_nowhere}
use Rattle.ix_belmap.proofs.pins.first_nowhere.Goals as goal

pub loop-i-preserved : goal.loop-i-preserved
loop-i-preserved c = none_nowhere c.args.all.now c.loop-i.i c.at.result.now c.at.ensures
    c.in_default.not-Nowhere c.loop-i.invariant
