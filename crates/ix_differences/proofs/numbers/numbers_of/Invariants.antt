use Rattle.ix_differences.proofs.Keyed.{KnowsTaken}
use Rattle.ix_differences.proofs.numbers.numbers_of.Given as goal

abbrev pub invariant-loop-i : goal.invariant-loop-i
invariant-loop-i l = KnowsTaken l.flat.cells l.fn.names l.i l.numbers
