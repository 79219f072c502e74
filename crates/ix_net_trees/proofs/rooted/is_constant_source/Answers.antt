use Rattle.std.proofs.Common.{◌≡◌, ◌↔◌, ◌∙◌, ap, sym, subst, true, inl, inr, length}
use Rattle.std.proofs.lemmas.Bool.{false≢true}
use Rattle.ix_graph.specs.Graph.{Graph}
use Rattle.ix_net_trees.specs.Constants.{IsNodeOf}
use Rattle.ix_net_trees.proofs.NodeConstants.{from_constant}
use Rattle.ix_net_trees.proofs.rooted.is_constant_source.Goals as goal

pub is_node_of-requires : goal.is_node_of-requires
is_node_of-requires c = c.requires.known.ends.nodes_are
    ∙ sym (ap (λ (graph : Graph). length graph.firsts) c.requires.known.graph
    ∙ c.graph_has_nodes.ensures.law c.args.known.now.device.now)

pub returns-else-is_site_source : goal.returns-else-is_site_source
returns-else-is_site_source c =
    let from = from_constant c.args.known.now.device.now c.args.known.now.phys.now
    c.args.known.now.ends.now c.requires.known.ends c.args.segment.now c.args.pair
    c.requires.numbers c.graph_has_constants.ensures.law c.args.constant in
    let told : (c.is_node_of.result ≡ true) ↔ IsNodeOf _ c.args.known.now.ends.now
    c.args.pair.from c.args.constant =
    subst (λ (graph : Graph). (c.is_node_of.result ≡ true) ↔ IsNodeOf graph
    c.args.known.now.ends.now c.args.pair.from c.args.constant) c.requires.known.graph
    c.is_node_of.ensures in (
      λ h. inr (from.1 (told.0 h)),
      λ h. elim h [
        | inl site ↦ absurd (false≢true (sym c.if-is_site_source.false ∙ c.is_site_source.ensures.1
            site))
        | inr node ↦ told.1 (from.0 node)
      ],
    )
