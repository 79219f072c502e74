use Rattle.std.proofs.Common.{◌≡◌, ◌∙◌, ap}
use Rattle.ix_keys.specs.Keys.{key, has_key}
use Rattle.ix_device_rules.specs.Rules
use Rattle.ix_device_rules.proofs.Steps.{entered_as, flat_none, flat_more, flat_stops}
use Rattle.ix_device_rules.proofs.pins_have_bels.bel_pins_have_bels.Goals as goal

pub loop-i-init : goal.loop-i-init
loop-i-init c = flat_none (Rules.pin_has_bel c.args.site_type.now) (c.args.site_type.now.bel_pins) c.args.walk.now

pub loop-i-preserved : goal.loop-i-preserved
loop-i-preserved c =
    let fits : c.has-has_bel.result ≡ Rules.has_bel c.args.site_type.now c.at-pin.result.now.bel = c.has-has_bel.ensures ∙ ap (has_key c.args.bels.now) (c.new.ensures ∙ ap (λ n. key c.args.number 0 n) c.get.ensures) ∙ c.requires c.at-pin.result.now.bel in
    flat_more (Rules.pin_has_bel c.args.site_type.now) (c.args.site_type.now.bel_pins) c.loop-i.i c.at-pin.result.now c.at-pin.ensures c.loop-i.invariant (entered_as fits c.in-Ok.ensures)

pub returns-in-Err : goal.returns-in-Err
returns-in-Err c =
    let fits : c.has-has_bel.result ≡ Rules.has_bel c.args.site_type.now c.at-pin.result.now.bel = c.has-has_bel.ensures ∙ ap (has_key c.args.bels.now) (c.new.ensures ∙ ap (λ n. key c.args.number 0 n) c.get.ensures) ∙ c.requires c.at-pin.result.now.bel in
    flat_stops (Rules.pin_has_bel c.args.site_type.now) (c.args.site_type.now.bel_pins) _ c.loop-i.i c.at-pin.result.now c.at-pin.ensures c.loop-i.invariant (entered_as fits c.in-Err.ensures)
