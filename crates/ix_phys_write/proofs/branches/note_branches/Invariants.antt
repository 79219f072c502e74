use Rattle.std.specs.List.{flat_map}
use Rattle.ix_message.specs.Names.{text_in}
use Rattle.ix_message_write.proofs.Turns.{NotedSoFar}
use Rattle.ix_phys_write.specs.Record.{segment_row}
use Rattle.ix_phys_write.proofs.branches.note_branches.Given as goal

abbrev pub invariant-loop-i : goal.invariant-loop-i
invariant-loop-i l = NotedSoFar l.names (λ b. flat_map text_in (segment_row l.names b.item)) l.forest l.i l.initial.strings l.strings
