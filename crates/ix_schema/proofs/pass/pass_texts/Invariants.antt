use Rattle.std.proofs.Common.{◌≡◌, ◌-◌}
use Rattle.ix_frame.specs.Views.{text_elements}
use Rattle.ix_schema.specs.Passed.{texts_left}
use Rattle.ix_schema.proofs.pass.pass_texts.Given as goal

abbrev pub invariant-loop-i : goal.invariant-loop-i
invariant-loop-i l = texts_left ((text_elements l.l).count - l.i) (text_elements l.l) l.i l.budget ≡ texts_left (text_elements l.l).count (text_elements l.l) 0 l.fn.budget
