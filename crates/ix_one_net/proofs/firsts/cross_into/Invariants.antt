use Rattle.std.proofs.Common.{length}
use Rattle.ix_one_net.proofs.Crossing.{IsCrossing}
use Rattle.ix_one_net.proofs.firsts.cross_into.Given as goal

abbrev pub invariant-loop-place : goal.invariant-loop-place
invariant-loop-place l = IsCrossing l.fn.kinds l.fn.outer l.fn.inner l.fn.instances
    (length l.fn.above) l.fn.above l.above l.fn.instance l.rows.start l.place l.rows.first_net
    l.first_net
