use Rattle.std.proofs.Common.{◌∙◌, ◌+◌, List, Option, ap, length, subst, sym, refl, arith}
use Rattle.ix_least.specs.declared.labels.Label.{Label}
use Rattle.ix_least.specs.Settling.{IsSettling, all_edges, HasSources, key_of}
use Rattle.ix_least.specs.Walks.{asked}
use Rattle.ix_least.proofs.Finals.{found, no_walk}
use Rattle.ix_least.proofs.Reaching.{entry_within}
use Rattle.ix_least.proofs.Steps.{settle_point, stale, leave_end}
use Rattle.ix_least.proofs.front.reach.Goals as goal

pub returns-then-point-target-clause-found : goal.returns-then-point-target-clause-found
returns-then-point-target-clause-found g c =
    found _ _ _ _ _ c.requires.rising c.loop-point.invariant.settling c.loop-point.invariant.sources
    _ _ c.in-Some.ensures.taken.takes c.if-point-target.true

pub settle-requires : goal.settle-requires
settle-requires g c = entry_within _ _ _ _ _ _ _ c.loop-point.invariant.settling
    c.in-Some.ensures.taken.takes

pub leave-requires-clause-point : goal.leave-requires-clause-point
leave-requires-clause-point g c =
    let m = settle_point _ _ _ _ _ _ _ c.requires.rising c.loop-point.invariant.settling
    c.loop-point.invariant.sources c.in-Some.ensures.taken.takes c.if-point-target.false _ _
    c.in-Some-settle.ensures.settled in
    omega (
      arith,
      entry_within _ _ _ _ _ _ _ c.loop-point.invariant.settling
          c.in-Some.ensures.taken.takes,
      m.2,
    )

pub leave-requires-clause-room : goal.leave-requires-clause-room
leave-requires-clause-room g c =
    let m = settle_point _ _ _ _ _ _ _ c.requires.rising c.loop-point.invariant.settling
    c.loop-point.invariant.sources c.in-Some.ensures.taken.takes c.if-point-target.false _ _
    c.in-Some-settle.ensures.settled in
    omega (arith, m.0.room, m.2, c.loop-point.invariant.size, c.requires.few)

pub loop-point-smaller-in-Continue-branch-2 : goal.loop-point-smaller-in-Continue-branch-2
loop-point-smaller-in-Continue-branch-2 g c =
    let m = settle_point _ _ _ _ _ _ _ c.requires.rising c.loop-point.invariant.settling
    c.loop-point.invariant.sources c.in-Some.ensures.taken.takes c.if-point-target.false _ _
    c.in-Some-settle.ensures.settled in
    omega (
      arith,
      m.1 (λ p. 1 + length (g.E.Edges.edges_out c.args.edges.now p)),
      c.in_ok-leave.ensures.left.weights c.args.sources.now c.args.target c.requires.rising m.0
          (λ p. 1 + length (g.E.Edges.edges_out c.args.edges.now p)),
      c.in_ok-leave.ensures.queue,
      c.in-Some.ensures.taken.takes.shrinks,
    )

pub loop-point-preserved-in-Continue-branch-2 : goal.loop-point-preserved-in-Continue-branch-2
loop-point-preserved-in-Continue-branch-2 g c =
    let m = settle_point _ _ _ _ _ _ _ c.requires.rising c.loop-point.invariant.settling
    c.loop-point.invariant.sources c.in-Some.ensures.taken.takes c.if-point-target.false _ _
    c.in-Some-settle.ensures.settled in
    let left = c.in_ok-leave.ensures.left.leaving c.args.sources.now c.args.target c.requires.rising
    m.0 in
    record {
      settling = leave_end _ _ _ _ _ _ _ _ left refl;
      sources = left.sources;
      size = c.in_ok-leave.ensures.size ∙ (m.2 ∙ c.loop-point.invariant.size);
    }

pub loop-point-preserved : goal.loop-point-preserved
loop-point-preserved g c = record {
  settling = subst (λ (labels : List (Option Label)). IsSettling
      (asked (g.E.Edges.point_count c.args.edges.now) (g.E.Edges.edges_out c.args.edges.now)
      (g.C.Costs.cost_at c.args.costs.now) c.args.sources.now)
      (key_of (g.B.Bounds.bound_at c.args.bounds.now)) c.args.target
      (all_edges (asked (g.E.Edges.point_count c.args.edges.now)
      (g.E.Edges.edges_out c.args.edges.now) (g.C.Costs.cost_at c.args.costs.now)
      c.args.sources.now)) labels (g.Q.Queue.entries c.pop.new.self))
      (sym c.in_default-settle.ensures.unchanged)
      (stale _ _ _ _ _ _ _ c.loop-point.invariant.settling c.in-Some.ensures.taken.takes
      c.in_default-settle.ensures.before);
  sources = subst (λ (labels : List (Option Label)). HasSources c.args.sources.now labels)
      (sym c.in_default-settle.ensures.unchanged) c.loop-point.invariant.sources;
  size = ap length c.in_default-settle.ensures.unchanged ∙ c.loop-point.invariant.size;
}

pub returns-clause-found : goal.returns-clause-found
returns-clause-found g c = no_walk _ _ _ _ _ c.requires.rising c.loop-point.invariant.settling
    c.loop-point.invariant.sources c.in_default.ensures.none
