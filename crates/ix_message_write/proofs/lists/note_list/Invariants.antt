use Rattle.ix_message.specs.Names.{uses}
use Rattle.ix_message_write.proofs.Turns.{NotedSoFar}
use Rattle.ix_message_write.proofs.lists.note_list.Given as goal

abbrev pub invariant-loop-i : goal.invariant-loop-i
invariant-loop-i g l = NotedSoFar l.names (λ x. uses g.T.StructWriter.shape (g.T.StructWriter.record_by l.names x)) l.list l.i l.initial.strings l.strings
