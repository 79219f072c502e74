use Rattle.std.proofs.Common.{◌∙◌, ap, sym, subst}
use Rattle.std.specs.FinMap.{get}
use Rattle.ix_num.specs.declared.resource.Res.TheVariants.{Wire}
use Rattle.ix_fill_tables.specs.Holdings.{TellsTie, tie_of}
use Rattle.ix_fill_tables.proofs.Wires.{tells_tie}
use Rattle.ix_fill_tables.proofs.constants.ConstantWires.tie.Goals as goal

pub returns : goal.returns
returns c rec nets are =
    let holdings = c.args.self.now.holdings in
    subst (TellsTie rec nets (Wire c.args.site c.args.wire))
    (sym (c.tie_of.ensures ∙ ap tie_of (c.get-3.ensures
    ∙ ap (λ n. get holdings (n, c.get-2.result)) c.get.ensures
    ∙ ap (λ n. get holdings (c.args.site, n)) c.get-2.ensures)))
    (tells_tie holdings c.args.site c.args.wire rec nets are)
