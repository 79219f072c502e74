use Rattle.std.proofs.Common.{◌<◌, length, ap, sym, ◌∙◌, Some, arith}
use Rattle.std.proofs.lemmas.Option.{get_or_from_slice_get}
use Rattle.ix_device.proofs.Walks.{at_place}
use Rattle.ix_graph.specs.Boxes.{box_of}
use Rattle.ix_graph.proofs.BoxLemmas.{one_more_node}
use Rattle.ix_graph.proofs.spans.add_tile.Goals as goal

pub loop-i-preserved : goal.loop-i-preserved
loop-i-preserved c =
    let below = at_place (λ m. m < length c.args.boxes.now.items) c.args.nodes.now c.loop-i.i c.at.result.now c.requires.below c.at.ensures in
    one_more_node (c.args.row, c.args.column) c.args.nodes.now c.loop-i.i c.get-node.result c.args.boxes.now.items c.loop-i.boxes.items c.with.result
    (c.at.ensures ∙ ap Some (sym c.get-node.ensures)) (omega (arith, below, c.get-node.ensures, c.loop-i.invariant.count))
    (λ ps h. c.with.ensures ps (c.index.ensures ∙ get_or_from_slice_get c.loop-i.boxes.items c.get-node.result (box_of ps) c.index.result.now h)) c.loop-i.invariant
