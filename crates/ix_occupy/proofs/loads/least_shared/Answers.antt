use Rattle.std.proofs.Common.{◌≡◌, ◌≤◌, ℕ, Option, take, get_or, sym, subst, ◌+◌}
use Rattle.ix_occupy.specs.Kept.{IsLeastShared, kept_at}
use Rattle.ix_occupy.proofs.Walks.{least_takes, least_stays, not_shared}
use Rattle.ix_occupy.proofs.loads.least_shared.Goals as goal
use Rattle.ix_occupy.proofs.loads.least_shared.Goals.{then-is_shared, else-is_shared}

pub loop-node-preserved : goal.loop-node-preserved
loop-node-preserved c =
    let is : c.get.result ≡ get_or c.args.nodes.now c.loop-node.node-index c.get.result = cc in
    let same : c.node-item.result ≡ c.get.result = cc in
    elim c.if-is_shared.branch [
      | then-is_shared w ↦
          subst (λ (o : Option ℕ). IsLeastShared c.args.loads.now
          (take (c.loop-node.node-index + 1) c.args.nodes.now) o) (sym w.least-is)
          (least_takes c.args.loads.now c.args.nodes.now c.loop-node.node-index c.node-item.result
          w.lesser.result c.loop-node.least
          c.loop-node-test.true c.loop-node.invariant c.node-item.is
          (subst (λ (n : ℕ). 2 ≤ (kept_at c.args.loads.now n).holders) (sym same)
          (c.is_shared.ensures.0 w.if-is_shared.true)) w.lesser.ensures)
      | else-is_shared w ↦
          subst (λ (o : Option ℕ). IsLeastShared c.args.loads.now
          (take (c.loop-node.node-index + 1) c.args.nodes.now) o) (sym w.least-is)
          (least_stays c.args.loads.now c.args.nodes.now c.loop-node.node-index c.get.result
          c.loop-node.least
          c.loop-node-test.true c.loop-node.invariant is
          (not_shared _ _ c.is_shared.ensures w.if-is_shared.false))
    ]
