use Rattle.std.proofs.Common.{ap, length, ◌∙◌}
use Rattle.ix_ends.proofs.Ending.{laid, ends_are}
use Rattle.ix_ends.proofs.There.{nodes_there}
use Rattle.ix_ends.proofs.ends.Ends.new.Goals as goal

pub invariant_of-result : goal.invariant_of-result
invariant_of-result c =
    laid c.args.device.now c.args.phys.now c.in_ok-all.all c.add_nets.new.self
    c.in_ok-starts.starts.items c.in_ok-all.ensures.none c.in_ok-starts.ensures.filled

pub returns-clause-ends : goal.returns-clause-ends
returns-clause-ends c =
    ends_are c.args.device.now c.args.phys.now c.in_ok-all.all c.add_nets.new.self
    c.in_ok-starts.starts.items c.in_ok-all.ensures.none c.in_ok-starts.ensures.filled
    c.nodes.result
    (c.nodes.ensures ∙ ap (λ g. length g.firsts) c.requires.graph
    ∙ nodes_there c.args.device.now)
