use Rattle.std.proofs.Common.{◌≡◌, ◌∙◌, ap}
use Rattle.ix_keys.specs.Keys.{key, has_key}
use Rattle.ix_device_rules.proofs.Steps.{asked_as, flat_none, flat_more, flat_stops}
use Rattle.ix_device_rules.specs.Tables.{wire_is_there}
use Rattle.ix_device_rules.proofs.site_pins_have_wires.wires_are_there.Goals as goal

pub loop-i-init : goal.loop-i-init
loop-i-init c = flat_none (wire_is_there c.args.wires.now c.args.number) (c.args.names.now) c.args.walk.now

pub loop-i-preserved : goal.loop-i-preserved
loop-i-preserved c =
    let fits : c.has-there.result ≡ has_key c.args.wires.now (key c.args.number 0 c.at.result.now) = c.has-there.ensures ∙ ap (has_key c.args.wires.now) (c.new.ensures ∙ ap (λ n. key c.args.number 0 n) c.get.ensures) in
    flat_more (wire_is_there c.args.wires.now c.args.number) (c.args.names.now) c.loop-i.i c.at.result.now c.at.ensures c.loop-i.invariant (asked_as fits c.in-Ok.ensures)

pub returns-in-Err : goal.returns-in-Err
returns-in-Err c =
    let fits : c.has-there.result ≡ has_key c.args.wires.now (key c.args.number 0 c.at.result.now) = c.has-there.ensures ∙ ap (has_key c.args.wires.now) (c.new.ensures ∙ ap (λ n. key c.args.number 0 n) c.get.ensures) in
    flat_stops (wire_is_there c.args.wires.now c.args.number) (c.args.names.now) _ c.loop-i.i c.at.result.now c.at.ensures c.loop-i.invariant (asked_as fits c.in-Err.ensures)
