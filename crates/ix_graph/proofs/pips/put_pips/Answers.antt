use Rattle.std.proofs.Common.{◌∙◌, ap, ◌&&◌, not}
use Rattle.ix_keys.specs.Keys.{key, key_eq}
use Rattle.ix_first.specs.First.{value_at, or_later}
use Rattle.ix_graph.specs.Tables.{joins, joins_back}
use Rattle.ix_graph.proofs.FirstPipLemmas.{one_more_first, and_apart}
use Rattle.ix_graph.proofs.pips.put_pips.Goals as goal

pub loop-i-preserved : goal.loop-i-preserved
loop-i-preserved c = record {
  forward =
      one_more_first (λ q. joins q.part q.name) c.args.ty c.loop-i.i c.args.pips.now c.at-pip.result.now (value_at c.args.forward.now) (value_at c.loop-i.forward) (value_at c.put.new.self) c.at-pip.ensures c.loop-i.invariant.forward
      (λ q. c.in_ok-put.ensures.values q
      ∙ ap (λ k. or_later (value_at c.loop-i.forward q) (key_eq k q) c.in_ok-place.place) c.new-key.ensures
      ∙ ap (or_later (value_at c.loop-i.forward q) (key_eq (key c.args.ty c.at-pip.result.now.wire0 c.at-pip.result.now.wire1) q)) c.in_ok-place.ensures);
  backward =
      one_more_first (λ q. joins_back q.part q.name) c.args.ty c.loop-i.i c.args.pips.now c.at-pip.result.now (value_at c.args.backward.now) (value_at c.loop-i.backward) (value_at c.put_backward.new.table) c.at-pip.ensures c.loop-i.invariant.backward
      (λ q. c.in_ok-put_backward.ensures q
      ∙ ap (λ k. or_later (value_at c.loop-i.backward q) (key_eq k q && not c.at-pip.result.now.directional) c.in_ok-place.place) c.new-key.ensures
      ∙ ap (or_later (value_at c.loop-i.backward q) (key_eq (key c.args.ty c.at-pip.result.now.wire0 c.at-pip.result.now.wire1) q && not c.at-pip.result.now.directional)) c.in_ok-place.ensures
      ∙ and_apart c.args.ty q c.at-pip.result.now (value_at c.loop-i.backward q) c.loop-i.i);
}
