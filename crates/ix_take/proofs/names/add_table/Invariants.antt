use Rattle.std.proofs.Common.{◌≡◌, ◌≤◌, ◌+◌, length, take}
use Rattle.ix_device_read.specs.Loose.{with_names, AreNumbersOf}
use Rattle.ix_frame.specs.Views.{text_elements}
use Rattle.ix_schema.specs.Said.{texts_said}
use Rattle.ix_strings.specs.Names.{KeepsNumbers}
use Rattle.ix_take.proofs.names.add_table.Given as goal

abbrev pub invariant-loop-i : goal.invariant-loop-i
invariant-loop-i l = record {
  adds : l.names ≡ with_names l.fn.names (take l.i
      (texts_said (text_elements l.l).count (text_elements l.l) 0));
  numbers : AreNumbersOf l.names l.found (take l.i
      (texts_said (text_elements l.l).count (text_elements l.l) 0));
  keeps : KeepsNumbers l.fn.names l.names;
  most : length l.names ≤ length l.fn.names + l.i;
}
