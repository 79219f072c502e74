use Rattle.std.proofs.Common.{◌∙◌, arith}
use Rattle.ix_graph.proofs.SpanLemmas.{boxes_in_order, greatest_of_boxes}
use Rattle.ix_graph.proofs.spans.greatest_span.Goals as goal

pub greatest_of-requires : goal.greatest_of-requires
greatest_of-requires c = boxes_in_order c.args.rec.now c.args.count c.deref.result.now (c.deref.ensures.value ∙ c.in_ok-boxes.ensures)

pub returns : goal.returns
returns c =
    let greatest_is = c.greatest_of.ensures ∙ greatest_of_boxes c.args.rec.now c.args.count c.deref.result.now (c.deref.ensures.value ∙ c.in_ok-boxes.ensures) in
    grind (arith, greatest_is)
