use Rattle.std.proofs.Common.{◌≡◌, ◌<◌, ap, sym, subst, ◌∙◌, slice_get, length, arith}
use Rattle.std.specs.List.{AllByRecursion}
use Rattle.ix_device.proofs.Walks.{at_place}
use Rattle.ix_graph.specs.Nodes.{AreBelow, wire_count}
use Rattle.ix_graph.proofs.MarkLemmas.{no_tile, one_more_tile, all_tiles}
use Rattle.ix_graph.proofs.TileLemmas.{tile_within, nodes_are, nodes_of_tile_count, type_within, listed_within, wires_of_type}
use Rattle.ix_graph.proofs.constants.mark_tiles.Goals as goal

pub loop-i-init : goal.loop-i-init
loop-i-init c = no_tile c.args.device.now c.args.marks.now

pub at-ty-requires : goal.at-ty-requires
at-ty-requires c = subst (λ r. c.at.result.now.ty < length r.tile_type_list) (sym c.rec-rec.ensures.same) (type_within c.args.device.now c.loop-i.i c.at.result.now c.rec-rec.ensures.fits (ap (λ r. slice_get r.tile_list c.loop-i.i) (sym c.rec-rec.ensures.same) ∙ c.at.ensures))

pub at-requires-in-loop-i : goal.at-requires-in-loop-i
at-requires-in-loop-i c = tile_within c.args.device.now c.args.wires.now c.loop-i.i c.at.result.now c.requires.wires (ap (λ r. slice_get r.tile_list c.loop-i.i) (sym c.rec-rec.ensures.same) ∙ c.at.ensures)

pub mark_tile-requires-clause-nodes : goal.mark_tile-requires-clause-nodes
mark_tile-requires-clause-nodes c = subst (λ n. AreBelow n c.at-in-loop-i.result.now) (sym c.loop-i.invariant.count) (at_place (AreBelow (length c.args.marks.now)) c.args.wires.now c.loop-i.i c.at-in-loop-i.result.now c.requires.below c.at-in-loop-i.ensures)

pub mark_tile-requires-clause-wires : goal.mark_tile-requires-clause-wires
mark_tile-requires-clause-wires c =
    let tile = ap (λ r. slice_get r.tile_list c.loop-i.i) (sym c.rec-rec.ensures.same) ∙ c.at.ensures in
    let its_type = ap (λ r. slice_get r.tile_type_list c.at.result.now.ty) (sym c.rec-rec.ensures.same) ∙ c.at-ty.ensures in
    let same = nodes_are c.args.device.now c.args.wires.now c.loop-i.i c.at.result.now c.at-in-loop-i.result.now c.requires.wires tile c.at-in-loop-i.ensures in
    let count = nodes_of_tile_count c.args.device.now c.loop-i.i (wire_count c.args.device.now c.at.result.now) c.at-in-loop-i.result.now same ∙ wires_of_type c.args.device.now c.at.result.now c.at-ty.result.now its_type in
    subst (λ k. AllByRecursion (λ e. AllByRecursion (λ w. w < k) e.wires) c.at-ty.result.now.constants) (sym count) (listed_within c.args.device.now c.at.result.now.ty c.at-ty.result.now c.rec-rec.ensures.fits its_type)

pub loop-i-preserved : goal.loop-i-preserved
loop-i-preserved c =
    let tile = ap (λ r. slice_get r.tile_list c.loop-i.i) (sym c.rec-rec.ensures.same) ∙ c.at.ensures in
    let its_type = ap (λ r. slice_get r.tile_type_list c.at.result.now.ty) (sym c.rec-rec.ensures.same) ∙ c.at-ty.ensures in
    one_more_tile c.args.device.now c.loop-i.i c.at.result.now c.at-ty.result.now c.at-in-loop-i.result.now c.args.marks.now c.loop-i.marks c.mark_tile.new.marks tile its_type
    (nodes_are c.args.device.now c.args.wires.now c.loop-i.i c.at.result.now c.at-in-loop-i.result.now c.requires.wires tile c.at-in-loop-i.ensures)
    (listed_within c.args.device.now c.at.result.now.ty c.at-ty.result.now c.rec-rec.ensures.fits its_type) c.loop-i.invariant c.mark_tile.ensures

pub returns : goal.returns
returns c = all_tiles c.args.device.now c.loop-i.i c.args.marks.now c.loop-i.marks (let same : length c.rec-rec.result.now.tile_list ≡ length c.args.device.now.tile_list = ap (λ r. length r.tile_list) c.rec-rec.ensures.same in omega arith) c.loop-i.invariant
