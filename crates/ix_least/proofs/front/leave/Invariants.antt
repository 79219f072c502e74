use Rattle.std.proofs.Common.{◌≡◌, ◌+◌, ◌≤◌, length}
use Rattle.ix_least.specs.Settling.{LeavesUpTo, key_of}
use Rattle.ix_least.proofs.front.leave.Given as goal

abbrev pub invariant-loop-i : goal.invariant-loop-i
invariant-loop-i g l = record {
  left : LeavesUpTo (g.E.Edges.point_count l.edges) (g.E.Edges.edges_out l.edges)
      (g.C.Costs.cost_at l.costs) (key_of (g.B.Bounds.bound_at l.bounds)) l.point l.dist l.i
      l.initial.labels l.labels (g.Q.Queue.entries l.initial.queue) (g.Q.Queue.entries l.queue);
  queue : length (g.Q.Queue.entries l.queue) ≤ length (g.Q.Queue.entries l.initial.queue) + l.i;
  size : length l.labels ≡ length l.initial.labels;
}
