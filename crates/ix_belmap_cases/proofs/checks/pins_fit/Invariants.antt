use Rattle.std.specs.FinMap.{entries}
use Rattle.ix_belmap_cases.proofs.Walked.{Walked}
use Rattle.ix_belmap_cases.proofs.checks.pins_fit.Given as goal

abbrev pub invariant-loop-cell : goal.invariant-loop-cell
invariant-loop-cell l = Walked l.flat l.names (entries l.flat.pins) l.cell-iterator
