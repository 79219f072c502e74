use Rattle.std.proofs.Common.{◌∙◌, ap, ◌+◌, arith}
use Rattle.ix_graph.proofs.StartLemmas.{one_more_start, all_begun}
use Rattle.ix_graph.proofs.pips.starts_of.Goals as goal

pub loop-i-preserved : goal.loop-i-preserved
loop-i-preserved c =
    one_more_start c.args.types.now c.args.kinds.now c.loop-i.i c.at.result.now c.loop-i.starts c.push.new.self c.loop-i.next c.in_ok-next.next
    c.at.ensures c.loop-i.invariant c.in_ok-push.ensures.ok (c.in_ok-next.ensures.next ∙ ap (λ n. c.loop-i.next + n) c.count_of.ensures) c.in_ok-next.ensures.few

pub returns : goal.returns
returns c = all_begun c.args.types.now c.args.kinds.now c.loop-i.i c.loop-i.starts c.loop-i.next (omega arith) (omega arith) (omega arith) c.loop-i.invariant
