use Rattle.std.proofs.Common.{◌∙◌, ap, sym}
use Rattle.ix_graph.specs.Ends.{ends_by, ends}
use Rattle.ix_graph.proofs.EndLemmas.{ends_of_others}
use Rattle.ix_graph.proofs.graph.NodeGraph.ends.Goals as goal

pub returns-in-Pip : goal.returns-in-Pip
unfolding ends
returns-in-Pip c =
    let s = c.args.segment.now in
    c.named_pip_ends.ensures ∙ ap (λ k. ends_by k c.args.device.now s.first s.second s.third s.forward) (sym c.in-Pip.is)

pub returns-in_default : goal.returns-in_default
unfolding ends
returns-in_default c =
    let s = c.args.segment.now in
    c.site_ends.ensures ∙ sym (ends_of_others s.kind c.args.device.now s.first s.second s.third s.forward c.in_default.not-Pip)
