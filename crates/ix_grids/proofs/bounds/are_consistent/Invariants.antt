use Rattle.std.proofs.Common.{◌≡◌, ℕ, ◌+◌, ◌<◌, ◌≤◌, Contains, Some}
use Rattle.ix_grids.proofs.bounds.are_consistent.Given as goal

abbrev pub invariant-loop-p : goal.invariant-loop-p
invariant-loop-p g l =
    (k : ℕ) → k < l.p → (edge to cost : ℕ) →
    Contains (g.E.Edges.edges_out l.edges k) (edge, to) →
    g.C.Costs.cost_at l.costs to ≡ Some cost →
    g.B.Bounds.bound_at l.bounds k ≤ cost + g.B.Bounds.bound_at l.bounds to
