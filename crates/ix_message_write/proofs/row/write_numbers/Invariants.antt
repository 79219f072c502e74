use Rattle.std.proofs.Common.{◌*◌}
use Rattle.ix_message_write.proofs.RowLemmas.{RowSoFar}
use Rattle.ix_message_write.proofs.row.write_numbers.Given as goal

abbrev pub invariant-loop-slot : goal.invariant-loop-slot
invariant-loop-slot l = RowSoFar (8 * l.at.start) l.slot l.numbers l.initial.builder l.builder
