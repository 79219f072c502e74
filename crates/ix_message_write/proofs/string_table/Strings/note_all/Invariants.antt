use Rattle.std.proofs.Common.{[], ◌∷◌}
use Rattle.ix_message_write.specs.Table.{name_text}
use Rattle.ix_message_write.proofs.Turns.{NotedSoFar}
use Rattle.ix_message_write.proofs.string_table.Strings.note_all.Given as goal

abbrev pub invariant-loop-i : goal.invariant-loop-i
invariant-loop-i l = NotedSoFar l.names (λ id. name_text l.names id ∷ []) l.ids l.i l.initial.self l.self
