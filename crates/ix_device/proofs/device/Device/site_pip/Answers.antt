use Rattle.std.proofs.Common.{◌<◌, ◌∙◌, ap, sym, subst, length, IfSome}
use Rattle.std.proofs.lemmas.Option.{same_Some}
use Rattle.ix_first.specs.First.{value_of}
use Rattle.ix_device.proofs.Inside.{site_pip_within}
use Rattle.ix_device.proofs.device.Device.site_pip.Goals as goal

pub returns-clause-inside : goal.returns-clause-inside
returns-clause-inside c =
    let within : c.args.pin < length c.parts.result.0.now.bel_pins = subst (λ o. IfSome o (λ ty. c.args.pin < length ty.bel_pins)) c.parts.ensures.ty c.requires.pin in
    site_pip_within c.args.self.now.site_type_list c.args.t c.args.pin c.parts.result.0.now c.get-2.result c.parts.ensures.ty c.parts.ensures.fits
    (same_Some _ _ (sym c.get-2.ensures ∙ ap (value_of c.parts.result.1.now.site_pips) c.get.ensures ∙ c.parts.ensures.tables.site_pips c.args.pin within))
