use Rattle.std.proofs.Common.{◌≡◌, ℕ, ◌+◌, ◌≤◌, Some, Contains, arith, refl}
use borrow.Author.Count.{below_more}
use Rattle.ix_grids.proofs.bounds.are_consistent.Goals as goal

pub loop-p-preserved : goal.loop-p-preserved
loop-p-preserved g c =
    below_more (λ k. (edge to cost : ℕ) →
    Contains (g.E.Edges.edges_out c.args.edges.now k) (edge, to) →
    g.C.Costs.cost_at c.args.costs.now to ≡ Some cost →
    g.B.Bounds.bound_at c.args.bounds.now k ≤ cost + g.B.Bounds.bound_at c.args.bounds.now to)
    c.loop-p.p c.loop-p.invariant (c.if-not-is_consistent_at.ensures refl)

pub returns : goal.returns
returns g c is sources = record {
  at_target = omega (arith, c.least.ensures);
  steps = λ from edge to cost step. c.loop-p.invariant from
      (omega (arith, step.inside, c.loop-p-test.false, c.points-p-end.ensures)) edge to cost
      step.leads step.costs;
}
