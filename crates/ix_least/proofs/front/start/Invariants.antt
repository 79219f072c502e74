use Rattle.std.proofs.Common.{◌≡◌, length}
use Rattle.ix_least.specs.Settling.{key_of}
use Rattle.ix_least.proofs.Starting.{IsStarting}
use Rattle.ix_least.proofs.front.start.Given as goal

abbrev pub invariant-loop-source : goal.invariant-loop-source
invariant-loop-source g l = record {
  starting : IsStarting l.sources l.source-index (key_of (g.B.Bounds.bound_at l.bounds)) l.labels
      (g.Q.Queue.entries l.queue);
  size : length l.labels ≡ length l.fn.labels;
}
