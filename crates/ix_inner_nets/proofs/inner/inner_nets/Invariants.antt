use Rattle.ix_inner_nets.proofs.Naming.{AreInnerUpTo}
use Rattle.ix_inner_nets.proofs.inner.inner_nets.Given as goal

abbrev pub invariant-loop-place : goal.invariant-loop-place
invariant-loop-place l = AreInnerUpTo l.fn.rec l.fn.outer.rows l.inner.items l.place
