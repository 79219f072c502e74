use Rattle.std.proofs.Common.{rules, ◌∙◌, sym, subst, IsSome}
use Rattle.ix_graph.specs.Graph.{graph_of, node_at}
use Rattle.ix_device_cases.proofs.WireNodes.{wire_has_node}
use Rattle.ix_device_cases.proofs.graph.put_node_of.Goals as goal

pub node_of-requires : goal.node_of-requires
unfolding graph_of
node_of-requires c =
    let there : IsSome (node_at c.args.graph.now.wires c.in-Some.tile c.in-Some.wire) =
    subst (λ g. IsSome (node_at g.wires c.in-Some.tile c.in-Some.wire)) (sym c.requires)
    (wire_has_node c.args.asked.now.device.now c.args.tile c.args.wire
    (c.in-Some.tile, c.in-Some.wire) (sym c.tile_wire.ensures ∙ c.in-Some.is)) in
    search rules
