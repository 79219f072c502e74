use Rattle.std.proofs.Common.{take}
use Rattle.ix_ends.specs.Pairs.{AddsPairs}
use Rattle.ix_ends.proofs.pairs.Pairs.add_trees.Given as goal

abbrev pub invariant-loop-k : goal.invariant-loop-k
invariant-loop-k l = AddsPairs l.device (take l.k l.trees) l.fn.self l.self
