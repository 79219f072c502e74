use Rattle.std.proofs.Common.{◌≡◌, take}
use Rattle.ix_frame.specs.Views.{numbers_of}
use Rattle.ix_logic_read.proofs.cell.sorted.Given as goal

abbrev pub invariant-loop-i : goal.invariant-loop-i
invariant-loop-i l = record {
  numbers : l.numbers.items ≡ take l.i (numbers_of l.l);
}
