use Rattle.std.proofs.Common.{◌∙◌, ap, length}
use Rattle.ix_ends.proofs.Giving.{nodes_alone, all_none}
use Rattle.ix_ends.proofs.There.{nodes_there}
use Rattle.ix_ends.proofs.numbers.Numbers.new.Goals as goal

pub returns : goal.returns
returns c =
    nodes_alone c.args.device.now _ c.sites.result
    (c.in_ok-resize.ensures.items ∙ all_none c.sites.result c.new-bases.result.items _
    c.new-bases.ensures.items c.new-bases.ensures.len)
    c.sites.ensures
    (c.nodes.ensures ∙ ap (λ g. length g.firsts) c.requires ∙ nodes_there c.args.device.now)
    c.nodes.type_inv
