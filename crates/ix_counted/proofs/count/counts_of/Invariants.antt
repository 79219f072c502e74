use Rattle.ix_counted.specs.Counts.{AreCounts}
use Rattle.ix_counted.proofs.count.counts_of.Given as goal

abbrev pub invariant-loop-declaration : goal.invariant-loop-declaration
invariant-loop-declaration l = AreCounts l.rec l.closed l.declaration-index l.counts.items
