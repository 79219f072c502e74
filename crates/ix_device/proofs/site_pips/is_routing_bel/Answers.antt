use Rattle.std.proofs.Common.{◌∙◌, ap, sym, slice_get}
use Rattle.ix_keys.specs.Keys.{name_key}
use Rattle.ix_first.specs.First.{value_at}
use Rattle.ix_device.proofs.SitePipLemmas.{routing_bel, no_routing_bel}
use Rattle.ix_device.proofs.site_pips.is_routing_bel.Goals as goal

pub returns-in-Some : goal.returns-in-Some
returns-in-Some c =
    c.is_for_routing.ensures
    ∙ routing_bel c.args.ty.now c.args.name c.in-Some.bel c.at.result.now (c.in-Some.ensures ∙ ap (value_at c.args.bels.now) (c.of_name.ensures ∙ ap name_key c.get.ensures) ∙ c.requires c.args.name) (ap (slice_get c.args.ty.now.bels) (sym c.get-in-Some.ensures) ∙ c.at.ensures)

pub returns-in-None : goal.returns-in-None
returns-in-None c = no_routing_bel c.args.ty.now c.args.name (c.in-None.ensures ∙ ap (value_at c.args.bels.now) (c.of_name.ensures ∙ ap name_key c.get.ensures) ∙ c.requires c.args.name)
