use Rattle.std.proofs.Common.{◌<◌, ℕ}
use Rattle.ix_legal.specs.Trees.{LeavesParent}
use Rattle.ix_net_trees.proofs.Parents.{KnowsLast}
use Rattle.ix_net_trees.proofs.joined.first_unjoined_in.Given as goal

abbrev pub invariant-loop-k : goal.invariant-loop-k
invariant-loop-k l = record {
  last : KnowsLast l.net l.row l.k l.last.items;
  kept : (j : ℕ) → j < l.k → LeavesParent l.fn.wiring.device.now l.net j;
}
