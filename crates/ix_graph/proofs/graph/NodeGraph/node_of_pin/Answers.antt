use Rattle.std.proofs.Common.{subst, sym, IsSome}
use Rattle.ix_graph.specs.Graph.{graph_of, node_at}
use Rattle.ix_graph.proofs.BuildLemmas.{node_there}
use Rattle.ix_graph.proofs.graph.NodeGraph.node_of_pin.Goals as goal

pub node_of-requires : goal.node_of-requires
unfolding graph_of
node_of-requires c =
    subst (λ g. IsSome (node_at g.wires c.tile_of.result c.in_ok-wire.wire)) (sym c.requires.graph)
    (node_there c.args.device.now c.args.site c.args.pin c.tile_of.result c.in_ok-wire.wire (sym c.in_ok-wire.ensures.wire) c.tile_of.ensures c.in_ok-wire.ensures.inside)
