use Rattle.std.proofs.Common.{◌≡◌, ◌-◌, map}
use Rattle.ix_message.specs.Reading.{value_at, each_from}
use Rattle.ix_frame.specs.Views.{elements_of}
use Rattle.ix_message.proofs.Lists.{with_front}
use Rattle.ix_message_read.proofs.from_message.read_list.Given as goal

abbrev pub invariant-loop-i : goal.invariant-loop-i
invariant-loop-i g l = with_front (map g.T.FromMessage.value l.found) (each_from (value_at g.T.FromMessage.shape) ((elements_of l.l).count - l.i) (elements_of l.l) l.i l.budget)
    ≡ each_from (value_at g.T.FromMessage.shape) (elements_of l.l).count (elements_of l.l) 0 l.fn.budget
