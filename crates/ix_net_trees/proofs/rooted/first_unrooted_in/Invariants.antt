use Rattle.std.proofs.Common.{◌<◌, ℕ}
use Rattle.ix_legal.specs.Trees.{RootFits}
use Rattle.ix_net_trees.proofs.rooted.first_unrooted_in.Given as goal

abbrev pub invariant-loop-k : goal.invariant-loop-k
invariant-loop-k l = (j : ℕ) → j < l.k → RootFits l.fn.known.device.now l.fn.known.phys.now l.fn.net
    j
