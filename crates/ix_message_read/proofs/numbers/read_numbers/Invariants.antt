use Rattle.std.proofs.Common.{◌≡◌, take}
use Rattle.ix_frame.specs.Views.{numbers_of}
use Rattle.ix_message_read.proofs.numbers.read_numbers.Given as goal

abbrev pub invariant-loop-i : goal.invariant-loop-i
invariant-loop-i l = l.found ≡ take l.i (numbers_of l.l)
