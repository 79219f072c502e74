use Rattle.std.proofs.Common.{subst, IsSome, nat_eq}
use Rattle.ix_graph.specs.Pips.{ways_from}
use Rattle.ix_graph.specs.Graph.{node_at}
use Rattle.ix_graph.proofs.GraphLemmas.{HasNodes, all_have_nodes, found_holds, located_nodes}
use Rattle.ix_graph.proofs.graph.NodeGraph.pip_ends.Goals as goal

pub node_of-node0-requires : goal.node_of-node0-requires
node_of-node0-requires c =
    let g = c.self.inside in
    subst (λ h. IsSome (node_at h.wires c.locate-tile.result.0 c.locate-tile.result.1.wire0)) c.self.view_is
    (located_nodes g.wires _ c.locate-tile.result.0 c.locate-tile.result.1 c.locate-tile.result.2
    (λ e h. found_holds (HasNodes g.wires) (λ f. nat_eq f.number c.args.pip) (ways_from g.pips.types 0 0 g.pips.kinds) e (all_have_nodes g.wires g.pips.types g.pips.kinds _ c.self.invariant.nodes) h) c.locate-tile.ensures).0

pub node_of-node1-requires : goal.node_of-node1-requires
node_of-node1-requires c =
    let g = c.self.inside in
    subst (λ h. IsSome (node_at h.wires c.locate-tile.result.0 c.locate-tile.result.1.wire1)) c.self.view_is
    (located_nodes g.wires _ c.locate-tile.result.0 c.locate-tile.result.1 c.locate-tile.result.2
    (λ e h. found_holds (HasNodes g.wires) (λ f. nat_eq f.number c.args.pip) (ways_from g.pips.types 0 0 g.pips.kinds) e (all_have_nodes g.wires g.pips.types g.pips.kinds _ c.self.invariant.nodes) h) c.locate-tile.ensures).1
