use Rattle.std.proofs.Common.{◌<◌, ◌+◌, ℕ}
use Rattle.ix_legal.specs.Trees.{EntersAlone}
use Rattle.ix_net_trees.specs.Met.{IsMet}
use Rattle.ix_net_trees.proofs.apart.first_rejoining_in.Given as goal

abbrev pub invariant-loop-k : goal.invariant-loop-k
invariant-loop-k l = record {
  met : IsMet l.fn.wiring.device.now l.fn.wiring.ends.now l.net (l.fn.n + 1) l.k l.met;
  kept : (j : ℕ) → j < l.k → EntersAlone l.fn.wiring.device.now l.net j;
}
