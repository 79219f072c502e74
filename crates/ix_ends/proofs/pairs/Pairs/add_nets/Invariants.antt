use Rattle.ix_ends.proofs.Filling.{IsFilling}
use Rattle.ix_ends.proofs.pairs.Pairs.add_nets.Given as goal

abbrev pub invariant-loop-n : goal.invariant-loop-n
invariant-loop-n l = IsFilling l.device l.phys l.n l.fn.self l.self l.starts.items
