use Rattle.std.proofs.Common.{length, ◌≤◌}
use Rattle.ix_roots.specs.Forest.{AreUp}
use Rattle.ix_one_net.specs.Joining.{AreJoined}
use Rattle.ix_one_net.proofs.firsts.join_all.Given as goal

abbrev pub invariant-loop-instance : goal.invariant-loop-instance
invariant-loop-instance l = record {
  up : AreUp l.above;
  joined : AreJoined l.fn.kinds l.fn.outer l.fn.inner l.fn.instances (length l.fn.above) l.above
      l.instance;
  from : 1 ≤ l.instance;
}
