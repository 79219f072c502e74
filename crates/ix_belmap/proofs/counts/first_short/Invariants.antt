use Rattle.ix_keys.specs.Keys.{name_key}
use Rattle.ix_first.specs.First.{value_at}
use Rattle.ix_belmap.proofs.Counting.{Seen}
use Rattle.ix_belmap.proofs.counts.first_short.Given as goal

abbrev pub invariant-loop-i : goal.invariant-loop-i
invariant-loop-i l = Seen l.device l.flat.cells l.i (λ q. value_at l.seen (name_key q))
