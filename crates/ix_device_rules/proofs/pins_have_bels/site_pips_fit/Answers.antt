use Rattle.std.proofs.Common.{◌≡◌, ◌∙◌}
use Rattle.ix_device_rules.specs.Rules
use Rattle.ix_device_rules.proofs.Steps.{entered_as, flat_none, flat_more, flat_stops}
use Rattle.ix_device_rules.proofs.pins_have_bels.site_pips_fit.Goals as goal

pub loop-i-init : goal.loop-i-init
loop-i-init c = flat_none (Rules.pip_is_of_one_bel c.args.site_type.now) (c.args.site_type.now.site_pips) c.args.walk.now

pub loop-i-preserved : goal.loop-i-preserved
loop-i-preserved c =
    let fits : c.same_bel-fits.result ≡ Rules.is_same_bel (Rules.bel_of_pin c.args.site_type.now c.at-pip.result.now.inpin) (Rules.bel_of_pin c.args.site_type.now c.at-pip.result.now.outpin) = c.same_bel-fits.ensures ∙ (λ i. Rules.is_same_bel (c.bel_of.ensures i) (c.bel_of-in-loop-i.ensures i)) in
    flat_more (Rules.pip_is_of_one_bel c.args.site_type.now) (c.args.site_type.now.site_pips) c.loop-i.i c.at-pip.result.now c.at-pip.ensures c.loop-i.invariant (entered_as fits c.in-Ok.ensures)

pub returns-in-Err : goal.returns-in-Err
returns-in-Err c =
    let fits : c.same_bel-fits.result ≡ Rules.is_same_bel (Rules.bel_of_pin c.args.site_type.now c.at-pip.result.now.inpin) (Rules.bel_of_pin c.args.site_type.now c.at-pip.result.now.outpin) = c.same_bel-fits.ensures ∙ (λ i. Rules.is_same_bel (c.bel_of.ensures i) (c.bel_of-in-loop-i.ensures i)) in
    flat_stops (Rules.pip_is_of_one_bel c.args.site_type.now) (c.args.site_type.now.site_pips) _ c.loop-i.i c.at-pip.result.now c.at-pip.ensures c.loop-i.invariant (entered_as fits c.in-Err.ensures)
