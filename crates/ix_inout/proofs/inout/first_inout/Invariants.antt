use Rattle.std.proofs.Common.{◌≤◌}
use Rattle.ix_joined.specs.Joining.{Known, IsJoined}
use Rattle.ix_inout.proofs.Walks.{NoneBeforeLeaf}
use Rattle.ix_inout.proofs.inout.first_inout.Given as goal

abbrev pub invariant-loop-instance : goal.invariant-loop-instance
invariant-loop-instance l = record {
  from : 1 ≤ l.instance;
  none : (known : Known) → IsJoined known l.fn.rec l.fn.joined
      → NoneBeforeLeaf known l.fn.rec l.instance;
}
