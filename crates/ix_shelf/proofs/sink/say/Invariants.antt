use Rattle.std.proofs.Common.{length, ◌-◌, ◌≡◌, ◌≤◌, take}
use Rattle.ix_shelf.specs.Sink.{with_bytes}
use Rattle.ix_shelf.proofs.sink.say.Given as goal

abbrev pub invariant-loop-at : goal.invariant-loop-at
invariant-loop-at g l = record {
  in_range : l.at ≤ length l.bytes;
  put : g.O.Sink.told l.out ≡ with_bytes (take l.at l.bytes) (g.O.Sink.told l.initial.out);
  faults : g.O.Sink.faults l.initial.out ≤ g.O.Sink.faults l.out;
}

abbrev pub decreases-loop-at : goal.decreases-loop-at
decreases-loop-at g l = length l.bytes - l.at
