use Rattle.std.proofs.Common.{reverse}
use Rattle.ix_least.specs.Labels.{IsKnown}
use Rattle.ix_least.specs.Settling.{IsFound}
use Rattle.ix_least.specs.Walks.{Question}
use Rattle.ix_least.proofs.Tracing.{IsTracing}
use Rattle.ix_least.proofs.front.trace.Given as goal

abbrev pub invariant-loop-label : goal.invariant-loop-label
invariant-loop-label l = record {
  known : IsKnown l.labels l.point l.label;
  tracing : (q : Question) → IsFound q l.target l.labels →
      IsTracing q l.target l.labels l.point l.label (reverse l.edges.items);
}

abbrev pub decreases-loop-label : goal.decreases-loop-label
decreases-loop-label l = l.label.dist
