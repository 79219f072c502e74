use Rattle.ix_frame.proofs.Parts.{IsAhead}
use Rattle.ix_frame.proofs.table.part.Given as goal

abbrev pub invariant-loop : goal.invariant-loop
invariant-loop l = IsAhead l.table l.bytes l.count l.number l.counter l.ahead l.rest
