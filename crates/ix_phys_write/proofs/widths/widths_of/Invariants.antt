use Rattle.ix_phys_write.proofs.Counted.{CountedSoFar}
use Rattle.ix_phys_write.proofs.widths.widths_of.Given as goal

abbrev pub invariant-loop-done : goal.invariant-loop-done
invariant-loop-done l = CountedSoFar l.forest l.done l.below.items l.beside.items
