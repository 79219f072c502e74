use Rattle.std.proofs.Common.{◌+◌}
use Rattle.ix_message.specs.Layout.{section_of}
use Rattle.ix_message.specs.Names.{place_in, numbered}
use Rattle.ix_message_write.specs.Table.{table_in}
use Rattle.ix_message_write.proofs.Turns.{WrittenSoFar}
use Rattle.ix_message_write.proofs.lists.write_list.Given as goal

abbrev pub invariant-loop-i : goal.invariant-loop-i
invariant-loop-i g l =
    let table = table_in l.names l.strings in
    WrittenSoFar l.elements.start (g.T.StructWriter.WORDS + g.T.StructWriter.POINTERS) (λ x. section_of table g.T.StructWriter.shape (numbered (place_in table) g.T.StructWriter.shape (g.T.StructWriter.record_by l.names x))) l.list l.i l.initial.builder l.builder
