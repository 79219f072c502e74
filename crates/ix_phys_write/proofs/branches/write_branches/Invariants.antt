use Rattle.std.proofs.Common.{get_or}
use Rattle.ix_message_write.specs.Table.{table_in}
use Rattle.ix_phys_write.specs.Wide.{numbers_by, numbers_five}
use Rattle.ix_phys_write.proofs.Filled.{BranchesSoFar}
use Rattle.ix_phys_write.proofs.branches.write_branches.Given as goal

abbrev pub invariant-loop-i : goal.invariant-loop-i
invariant-loop-i l =
    let table = table_in l.names l.strings in
    BranchesSoFar (numbers_by l.names table) (numbers_five l.names table) l.forest l.i (get_or l.initial.next.items 0 0) l.initial.builder l.next.items l.builder
