use Rattle.std.proofs.Common.{◌∙◌, ◌+◌, List, Option, ap, length, subst, sym, arith}
use Rattle.ix_least.specs.declared.labels.Label.{Label}
use Rattle.ix_least.specs.declared.queue.Entry.{Entry}
use Rattle.ix_least.specs.Settling.{LeavesUpTo, key_of}
use Rattle.ix_least.proofs.Reaching.{leaves_more, leaves_closed, offer_length}
use Rattle.ix_least.proofs.front.leave.Goals as goal
use Rattle.ix_least.proofs.front.leave.Goals.{in-Some+in_ok-offer, in_default}

pub loop-i-preserved : goal.loop-i-preserved
loop-i-preserved g c =
    elim c.match-cost.branch [
      | in-Some+in_ok-offer w ↦ record {
        left = subst (λ (labels : List (Option Label)). LeavesUpTo
            (g.E.Edges.point_count c.args.edges.now) (g.E.Edges.edges_out c.args.edges.now)
            (g.C.Costs.cost_at c.args.costs.now) (key_of (g.B.Bounds.bound_at c.args.bounds.now))
            c.args.point c.args.dist (c.loop-i.i + 1) c.args.labels.now labels
            (g.Q.Queue.entries c.args.queue.now) (g.Q.Queue.entries c.match-cost.queue))
            (sym w.labels-is)
            (subst (λ (entries : List Entry). LeavesUpTo (g.E.Edges.point_count c.args.edges.now)
            (g.E.Edges.edges_out c.args.edges.now) (g.C.Costs.cost_at c.args.costs.now)
            (key_of (g.B.Bounds.bound_at c.args.bounds.now)) c.args.point c.args.dist
            (c.loop-i.i + 1) c.args.labels.now w.offer.new.labels
            (g.Q.Queue.entries c.args.queue.now) entries)
            (sym (ap g.Q.Queue.entries w.queue-is))
            (leaves_more _ _ _ _ _ _ _ _ _ _ _ (omega (arith, c.requires.point, c.requires.points))
            c.loop-i.invariant.left c.edge-edge.result.0 c.edge-edge.result.1 w.in-Some.cost
            c.edge-edge.ensures.edge w.in-Some.ensures.cost w.in-Some.ensures.some
            w.in-Some.ensures.small (omega (
              arith,
              c.edge-edge.ensures.inside,
              c.requires.points,
              c.loop-i.invariant.size,
            )) w.offer.new.labels
            (g.Q.Queue.entries w.offer.new.queue) w.in_ok-offer.ensures.offered));
        queue = omega (
          arith,
          ap (λ q. length (g.Q.Queue.entries q)) w.queue-is,
          offer_length _ _ _
              _ _ _ _ w.in_ok-offer.ensures.offered,
          c.loop-i.invariant.queue,
        );
        size = ap length w.labels-is ∙ (w.in_ok-offer.ensures.size ∙ c.loop-i.invariant.size);
      }
      | in_default w ↦ record {
        left = subst (λ (labels : List (Option Label)). LeavesUpTo
            (g.E.Edges.point_count c.args.edges.now) (g.E.Edges.edges_out c.args.edges.now)
            (g.C.Costs.cost_at c.args.costs.now) (key_of (g.B.Bounds.bound_at c.args.bounds.now))
            c.args.point c.args.dist (c.loop-i.i + 1) c.args.labels.now labels
            (g.Q.Queue.entries c.args.queue.now) (g.Q.Queue.entries c.match-cost.queue))
            (sym w.labels-is)
            (subst (λ (entries : List Entry). LeavesUpTo (g.E.Edges.point_count c.args.edges.now)
            (g.E.Edges.edges_out c.args.edges.now) (g.C.Costs.cost_at c.args.costs.now)
            (key_of (g.B.Bounds.bound_at c.args.bounds.now)) c.args.point c.args.dist
            (c.loop-i.i + 1) c.args.labels.now c.loop-i.labels
            (g.Q.Queue.entries c.args.queue.now) entries)
            (sym (ap g.Q.Queue.entries w.queue-is))
            (leaves_closed _ _ _ _ _ _ _ _ _ _ _ c.loop-i.invariant.left c.edge-edge.result.0
            c.edge-edge.result.1 c.edge-edge.ensures.edge w.in_default.ensures.cost));
        queue = omega (
          arith,
          ap (λ q. length (g.Q.Queue.entries q)) w.queue-is,
          c.loop-i.invariant.queue,
        );
        size = ap length w.labels-is ∙ c.loop-i.invariant.size;
      }
    ]
