use Rattle.ix_message_write.specs.Table.{table_in}
use Rattle.ix_message_write.proofs.Turns.{TextsSoFar}
use Rattle.ix_message_write.proofs.texts.write_strings.Given as goal

abbrev pub invariant-loop-i : goal.invariant-loop-i
invariant-loop-i l = TextsSoFar l.elements.start (table_in l.names l.strings) l.i l.initial.builder l.builder
