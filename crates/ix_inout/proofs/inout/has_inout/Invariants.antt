use Rattle.ix_inout.proofs.Leaves.{NoneBefore}
use Rattle.ix_inout.proofs.inout.has_inout.Given as goal

abbrev pub invariant-loop-place : goal.invariant-loop-place
invariant-loop-place l = NoneBefore l.fn.rec l.fn.joined l.start l.place
