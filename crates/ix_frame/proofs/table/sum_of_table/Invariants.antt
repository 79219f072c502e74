use Rattle.ix_frame.proofs.Parts.{IsSummed}
use Rattle.ix_frame.proofs.table.sum_of_table.Given as goal

abbrev pub invariant-loop : goal.invariant-loop
invariant-loop l = IsSummed l.table l.count l.counter l.words l.rest
