use Rattle.std.proofs.Common.{◌≡◌, ◌∙◌, ap, sym, Some, option_map, option_and_then}
use Rattle.ix_num.specs.declared.resource.Res.{Res}
use Rattle.ix_num.specs.declared.resource.Res.TheVariants as R
use Rattle.ix_device.specs.Lookups.{tile_named}
use Rattle.ix_graph.specs.Graph.{graph_of, ends_at, pip_at}
use Rattle.ix_graph.specs.Named.{pip_named}
use Rattle.ix_graph.proofs.graph.NodeGraph.named_pip_ends.Goals as goal

pub returns : goal.returns
returns c =
    let rec = c.args.device.now in
    let s = c.args.segment.now in
    let inner : option_and_then (ends_at (graph_of rec).wires) (option_and_then (λ t. pip_named rec t s.second s.third s.forward) (tile_named rec s.first)) ≡ Some c.pip_ends-from.result
    = ap (λ o. option_and_then (ends_at (graph_of rec).wires) (option_and_then (λ t. pip_named rec t s.second s.third s.forward) o)) (sym c.in_ok-tile.ensures.tile)
    ∙ ap (option_and_then (ends_at (graph_of rec).wires)) (sym c.in_ok-pip.ensures.at)
    ∙ ap (λ h. option_and_then (ends_at h.wires) (pip_at c.args.self.now c.in_ok-pip.pip)) (sym c.requires.graph)
    ∙ c.pip_ends-from.ensures.ends in
    sym (ap (option_map {U = Res × Res} (λ ns. (R.Node ns.0, R.Node ns.1))) inner)
