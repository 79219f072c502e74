use Rattle.std.proofs.Common.{◌≡◌, ℕ, ◌+◌, ◌<◌, ◌≤◌, Some, slice_get}
use Rattle.ix_grids.proofs.bounds.is_consistent_at.Given as goal

abbrev pub invariant-loop-i : goal.invariant-loop-i
invariant-loop-i g l =
    (k edge to cost : ℕ) → k < l.i →
    slice_get (g.E.Edges.edges_out l.edges l.p) k ≡ Some (edge, to) →
    g.C.Costs.cost_at l.costs to ≡ Some cost →
    g.B.Bounds.bound_at l.bounds l.p ≤ cost + g.B.Bounds.bound_at l.bounds to
