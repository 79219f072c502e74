use Rattle.std.proofs.Common.{◌≡◌, ◌<◌, ◌∙◌, subst, sym, ap, nat_eq, length, IsSome, IfSome, option_and_then, arith}
use Rattle.std.specs.List.{find}
use Rattle.ix_device.specs.Lookups.{wire_in_tile}
use Rattle.ix_graph.specs.Pips.{ways_from}
use Rattle.ix_graph.specs.Tables.{joins_at}
use Rattle.ix_graph.specs.Graph.{graph_of, pip_at}
use Rattle.ix_graph.specs.Named.{pip_named}
use Rattle.ix_graph.proofs.TileLemmas.{nodes_count}
use Rattle.ix_graph.proofs.GraphLemmas.{found_again, numbered_again, numbered_there}
use Rattle.ix_graph.proofs.graph.NodeGraph.pip_named.Goals as goal

pub between-requires-clause-tile : goal.between-requires-clause-tile
unfolding graph_of
between-requires-clause-tile c =
    let rec = c.args.device.now in
    let same : length c.self.inside.wires ≡ length c.self.inside.pips.kinds = c.self.invariant.nodes.tiles in
    let all : length c.self.inside.wires ≡ length rec.tile_list = ap (λ h. length h.wires) (c.self.view_is ∙ c.requires.graph) ∙ nodes_count rec 0 rec.tile_list in
    let within : c.args.tile < length rec.tile_list = c.requires.tile in
    omega arith

pub returns-clause-at : goal.returns-clause-at
returns-clause-at c =
    let rec = c.args.device.now in
    let g = c.self.inside in
    let test = joins_at c.args.tile c.in_ok-wire0.wire0 c.in_ok-wire1.wire1 c.args.forward in
    let here : IfSome c.between.result (λ n. find (λ f. nat_eq f.number n) c.args.self.now.pips ≡ find test c.args.self.now.pips)
    = subst (λ h. IfSome c.between.result (λ n. find (λ f. nat_eq f.number n) h.pips ≡ find test h.pips)) c.self.view_is
    (numbered_again (ways_from g.pips.types 0 0 g.pips.kinds) (find test (ways_from g.pips.types 0 0 g.pips.kinds)) c.between.result (λ e h. found_again test g.pips.types g.pips.kinds e h) c.between.ensures) in
    let named : pip_named rec c.args.tile c.args.wire0 c.args.wire1 c.args.forward ≡ find test (graph_of rec).pips
    = ap (option_and_then (λ a. option_and_then (λ b. find (joins_at c.args.tile a b c.args.forward) (graph_of rec).pips) (wire_in_tile rec c.args.tile c.args.wire1))) (sym c.in_ok-wire0.ensures.wire)
    ∙ ap (option_and_then (λ b. find (joins_at c.args.tile c.in_ok-wire0.wire0 b c.args.forward) (graph_of rec).pips)) (sym c.in_ok-wire1.ensures.wire) in
    subst (λ o. IfSome c.between.result (λ n. pip_at c.args.self.now n ≡ o)) (ap (λ h. find test h.pips) c.requires.graph ∙ sym named) here

pub returns-clause-there : goal.returns-clause-there
returns-clause-there c =
    let g = c.self.inside in
    let test = joins_at c.args.tile c.in_ok-wire0.wire0 c.in_ok-wire1.wire1 c.args.forward in
    subst (λ h. IfSome c.between.result (λ n. IsSome (pip_at h n))) c.self.view_is
    (numbered_there (ways_from g.pips.types 0 0 g.pips.kinds) (find test (ways_from g.pips.types 0 0 g.pips.kinds)) c.between.result (λ e h. found_again test g.pips.types g.pips.kinds e h) c.between.ensures)
