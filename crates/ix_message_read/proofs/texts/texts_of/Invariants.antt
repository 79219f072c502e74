use Rattle.std.proofs.Common.{◌≡◌, ◌-◌, map}
use Rattle.ix_message.specs.Reading.{texts_from}
use Rattle.ix_frame.specs.Views.{text_elements}
use Rattle.ix_message.proofs.Lists.{with_front}
use Rattle.ix_message_read.proofs.texts.texts_of.Given as goal

abbrev pub invariant-loop-i : goal.invariant-loop-i
invariant-loop-i l = with_front (map (λ t. t.now) l.found) (texts_from ((text_elements l.l).count - l.i) (text_elements l.l) l.i l.budget)
    ≡ texts_from (text_elements l.l).count (text_elements l.l) 0 l.fn.budget
