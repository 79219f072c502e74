use Rattle.std.proofs.Common.{◌≡◌, ◌<◌, ap, sym, subst, ◌∙◌, slice_get, Some, length}
use Rattle.ix_device.proofs.Walks.{at_place}
use Rattle.ix_graph.specs.Nodes.{AreBelow, wire_count}
use Rattle.ix_graph.proofs.MarkLemmas.{source_marked}
use Rattle.ix_graph.proofs.TileLemmas.{named_wire, tile_within, nodes_are, nodes_of_tile_count, wire_node}
use Rattle.ix_graph.proofs.constants.mark_source.Goals as goal

pub at-requires : goal.at-requires
at-requires c =
    let tile : c.get.result ≡ c.in-Some.tile = cc in
    let stands = named_wire c.args.device.now c.args.source.now.tile c.args.source.now.wire (c.in-Some.tile, c.in-Some.wire) (sym c.tile_wire.ensures ∙ c.in-Some.is) in
    subst (λ k. k < length c.args.wires.now) (sym tile) (tile_within c.args.device.now c.args.wires.now c.in-Some.tile stands.0 c.requires.wires stands.1.0)

pub at-node-requires : goal.at-node-requires
at-node-requires c =
    let tile : c.get.result ≡ c.in-Some.tile = cc in
    let stands = named_wire c.args.device.now c.args.source.now.tile c.args.source.now.wire (c.in-Some.tile, c.in-Some.wire) (sym c.tile_wire.ensures ∙ c.in-Some.is) in
    let nodes = ap (slice_get c.args.wires.now) (sym tile) ∙ c.at.ensures in
    let count = nodes_of_tile_count c.args.device.now c.in-Some.tile (wire_count c.args.device.now stands.0) c.at.result.now (nodes_are c.args.device.now c.args.wires.now c.in-Some.tile stands.0 c.at.result.now c.requires.wires stands.1.0 nodes) in
    let within : c.in-Some.wire < length c.at.result.now = subst (λ n. c.in-Some.wire < n) (sym count) stands.1.1 in
    subst (λ k. k < length c.at.result.now) (cc) within

pub mark-requires : goal.mark-requires
mark-requires c =
    at_place (λ n. n < length c.args.marks.now) c.at.result.now _ c.at-node.result.now (at_place (AreBelow (length c.args.marks.now)) c.args.wires.now c.get.result c.at.result.now c.requires.below c.at.ensures) c.at-node.ensures

pub returns-in-Some : goal.returns-in-Some
returns-in-Some c =
    let tile : c.get.result ≡ c.in-Some.tile = cc in
    let wire : slice_get c.at.result.now c.in-Some.wire ≡ Some c.at-node.result.now = subst (λ k. slice_get c.at.result.now k ≡ Some c.at-node.result.now) (cc) c.at-node.ensures in
    let named = sym c.tile_wire.ensures ∙ c.in-Some.is in
    let stands = named_wire c.args.device.now c.args.source.now.tile c.args.source.now.wire (c.in-Some.tile, c.in-Some.wire) named in
    let is = wire_node c.args.device.now c.args.wires.now c.in-Some.tile stands.0 c.in-Some.wire c.at.result.now c.at-node.result.now c.requires.wires stands.1.0 stands.1.1 (ap (slice_get c.args.wires.now) (sym tile) ∙ c.at.ensures) wire in
    source_marked c.args.device.now c.args.source.now (c.in-Some.tile, c.in-Some.wire) c.at-node.result.now c.args.marks.now c.mark.new.marks named is c.mark.ensures
