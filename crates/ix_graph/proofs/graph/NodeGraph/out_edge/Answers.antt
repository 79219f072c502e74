use Rattle.std.proofs.Common.{◌≡◌, ◌<◌, ◌*◌, nat_eq, subst, Some, length, slice_get, option_map, option_and_then}
use Rattle.std.specs.List.{filter, find}
use Rattle.ix_rows.specs.Rows.{row_of}
use Rattle.ix_graph.specs.Pips.{ways_from}
use Rattle.ix_graph.specs.Graph.{edge, goes_from, out_of, pip_at}
use Rattle.ix_graph.specs.Edges.{told}
use Rattle.ix_graph.proofs.GraphLemmas.{told_edge, joined_edge, by_its_number, found_by_number, rise_from, edge_below}
use Rattle.ix_graph.proofs.graph.NodeGraph.out_edge.Goals as goal

pub returns-clause-edge : goal.returns-clause-edge
returns-clause-edge c =
    let g = c.self.inside in
    let all = ways_from g.pips.types 0 0 g.pips.kinds in
    let tells : option_map (edge g.wires) (slice_get (filter (goes_from g.wires c.get.result) all) c.args.i) ≡ Some (told c.at-edge.result)
    = told_edge g.wires (filter (goes_from g.wires c.get.result) all) (row_of g.rows c.get.result) c.args.i c.at-edge.result (c.self.invariant.edges.edges c.get.result) c.at-edge.ensures in
    subst (λ h. option_and_then (edge h.wires) (slice_get (out_of h c.args.node) c.args.i) ≡ Some (c.at-edge.result.pip, c.at-edge.result.node)) c.self.view_is
    (subst (λ n. option_and_then (edge g.wires) (slice_get (filter (goes_from g.wires n) all) c.args.i) ≡ Some (c.at-edge.result.pip, c.at-edge.result.node)) c.get.ensures (joined_edge g.wires _ c.at-edge.result tells))

pub returns-clause-pip : goal.returns-clause-pip
returns-clause-pip c =
    let g = c.self.inside in
    let all = ways_from g.pips.types 0 0 g.pips.kinds in
    let tells : option_map (edge g.wires) (slice_get (filter (goes_from g.wires c.get.result) all) c.args.i) ≡ Some (told c.at-edge.result)
    = told_edge g.wires (filter (goes_from g.wires c.get.result) all) (row_of g.rows c.get.result) c.args.i c.at-edge.result (c.self.invariant.edges.edges c.get.result) c.at-edge.ensures in
    subst (λ h. pip_at h c.at-edge.result.pip ≡ slice_get (out_of h c.args.node) c.args.i) c.self.view_is
    (subst (λ n. find (λ f. nat_eq f.number c.at-edge.result.pip) all ≡ slice_get (filter (goes_from g.wires n) all) c.args.i) c.get.ensures
    (by_its_number g.wires (filter (goes_from g.wires c.get.result) all) all c.args.i c.at-edge.result
    (λ e at. found_by_number (goes_from g.wires c.get.result) (2 * 0) all c.args.i e (rise_from g.pips.types 0 0 g.pips.kinds) at) tells))

pub returns-clause-inside : goal.returns-clause-inside
returns-clause-inside c =
    let g = c.self.inside in
    let all = ways_from g.pips.types 0 0 g.pips.kinds in
    let tells : option_map (edge g.wires) (slice_get (filter (goes_from g.wires c.get.result) all) c.args.i) ≡ Some (told c.at-edge.result)
    = told_edge g.wires (filter (goes_from g.wires c.get.result) all) (row_of g.rows c.get.result) c.args.i c.at-edge.result (c.self.invariant.edges.edges c.get.result) c.at-edge.ensures in
    subst (λ h. c.at-edge.result.node < length h.firsts) c.self.view_is (edge_below g.wires (length g.firsts) _ c.at-edge.result c.self.invariant.nodes.below tells)
