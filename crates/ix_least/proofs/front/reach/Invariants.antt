use Rattle.std.proofs.Common.{◌≡◌, ◌+◌, length}
use Rattle.ix_least.specs.Labels.{open_weight}
use Rattle.ix_least.specs.Settling.{IsSettling, HasSources, all_edges, key_of}
use Rattle.ix_least.specs.Walks.{asked}
use Rattle.ix_least.proofs.front.reach.Given as goal

abbrev pub invariant-loop-point : goal.invariant-loop-point
invariant-loop-point g l = record {
  settling : IsSettling (asked (g.E.Edges.point_count l.edges) (g.E.Edges.edges_out l.edges)
      (g.C.Costs.cost_at l.costs) l.sources) (key_of (g.B.Bounds.bound_at l.bounds)) l.target
      (all_edges (asked (g.E.Edges.point_count l.edges) (g.E.Edges.edges_out l.edges)
      (g.C.Costs.cost_at l.costs) l.sources)) l.labels (g.Q.Queue.entries l.queue);
  sources : HasSources l.sources l.labels;
  size : length l.labels ≡ length l.fn.labels;
}

abbrev pub decreases-loop-point : goal.decreases-loop-point
decreases-loop-point g l = open_weight (λ p. 1 + length (g.E.Edges.edges_out l.edges p)) 0 l.labels
    + length (g.Q.Queue.entries l.queue)
