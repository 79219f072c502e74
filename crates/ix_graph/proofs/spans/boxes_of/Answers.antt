use Rattle.std.proofs.Common.{None, refl, ap, sym, ◌∙◌, subst, length, slice_get, arith}
use Rattle.ix_device.proofs.Walks.{at_place}
use Rattle.ix_graph.specs.Nodes.{AreBelow}
use Rattle.ix_graph.proofs.TileLemmas.{nodes_count}
use Rattle.ix_graph.proofs.SpanLemmas.{one_more_tile, no_boxes, boxes_of_all}
use Rattle.ix_graph.proofs.spans.boxes_of.Goals as goal

pub loop-i-init : goal.loop-i-init
loop-i-init c =
    let new = c.resize.new.self in
    no_boxes c.args.rec.now c.args.count new.items (omega (arith, c.in_ok-resize.ensures.len))
    (λ n lt. c.in_ok-resize.ensures.by_index.1 n None refl (omega (arith, c.new-boxes.ensures.len)) lt)

pub at-requires : goal.at-requires
at-requires c = omega (arith, ap length c.requires.wires, nodes_count c.args.rec.now 0 c.args.rec.now.tile_list)

pub add_tile-requires : goal.add_tile-requires
add_tile-requires c = record {
  below = subst (λ n. AreBelow n c.at.result.now) (sym c.loop-i.invariant.as_many) (at_place (AreBelow c.args.count) c.args.wires.now c.loop-i.i c.at.result.now c.requires.below c.at.ensures);
}

pub loop-i-preserved : goal.loop-i-preserved
loop-i-preserved c =
    one_more_tile c.args.rec.now c.loop-i.i c.at-tile.result.now c.at-tile.ensures c.at.result.now (ap (λ ns. slice_get ns c.loop-i.i) (sym c.requires.wires) ∙ c.at.ensures)
    c.args.count c.loop-i.boxes.items c.add_tile.new.boxes.items c.add_tile.ensures c.loop-i.invariant

pub returns : goal.returns
returns c = boxes_of_all c.args.rec.now c.args.count c.loop-i.i c.loop-i.boxes.items (omega arith) c.loop-i.invariant
