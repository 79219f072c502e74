use Rattle.std.proofs.Common.{take}
use Rattle.std.specs.List.{All}
use Rattle.ix_message.specs.Records.{IsText}
use Rattle.ix_message_write.proofs.texts.names_are_utf8.Given as goal

abbrev pub invariant-loop-i : goal.invariant-loop-i
invariant-loop-i l = All IsText (take l.i l.names)
