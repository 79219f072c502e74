use Rattle.std.proofs.Common.{◌≡◌, ◌∙◌, ◌&&◌, ◌||◌, not, take, ap}
use Rattle.std.specs.List.{list_any}
use Rattle.ix_keys.specs.Keys.{key, has_key, with_key}
use Rattle.ix_device_rules.specs.Rules
use Rattle.ix_device_rules.proofs.Steps.{entered_as, each_none, each_more, each_stops}
use Rattle.ix_device_rules.proofs.TableLemmas.{same_none, same_more, not_both}
use Rattle.ix_device_rules.proofs.NameLemmas.{pin_key, has_pin_key}
use Rattle.ix_device_rules.proofs.names_differ.bel_pins_differ.Goals as goal

pub loop-i-init : goal.loop-i-init
loop-i-init c = record { walked = each_none (Rules.bel_pin_names c.args.site_type.now) c.args.site_type.now.bel_pins c.args.walk.now; table_is = same_none _ c.new-pins.ensures }

pub loop-i-preserved : goal.loop-i-preserved
loop-i-preserved c =
    let t = c.args.site_type.now in
    let p = c.at-pin.result.now in
    let before = take c.loop-i.i t.bel_pins in
    let new_is : c.in-Ok.new ≡ not (list_any (Rules.is_pin_of p.bel p.name) before) = c.in-Ok.ensures.new ∙ ap (λ k. not (has_key c.loop-i.pins k)) c.pin_key.ensures ∙ ap not (has_pin_key before c.loop-i.pins p.bel p.name c.loop-i.invariant.table_is) in
    let bel_is : c.has-has_bel.result ≡ Rules.has_bel t p.bel = c.has-has_bel.ensures ∙ ap (has_key c.args.bels.now) (c.new.ensures ∙ ap (λ n. key c.args.number 0 n) c.get.ensures) ∙ c.requires p.bel in
    let fits : (c.in-Ok.new || not c.has-has_bel.result) ≡ not (Rules.has_bel t p.bel && list_any (Rules.is_pin_of p.bel p.name) before) = (λ i. new_is i || not (bel_is i)) ∙ not_both (Rules.has_bel t p.bel) (list_any (Rules.is_pin_of p.bel p.name) before) in
    record {
      walked = each_more (Rules.bel_pin_names t) (t.bel_pins) c.loop-i.i c.at-pin.result.now c.at-pin.ensures c.loop-i.invariant.walked (entered_as fits c.in-Ok-enter.ensures);
      table_is = same_more pin_key t.bel_pins c.loop-i.i p c.loop-i.pins c.add.new.self c.at-pin.ensures c.loop-i.invariant.table_is (c.in-Ok.ensures.keys ∙ ap (with_key c.loop-i.pins) c.pin_key.ensures);
    }

pub returns-in-Err : goal.returns-in-Err
returns-in-Err c =
    let t = c.args.site_type.now in
    let p = c.at-pin.result.now in
    let before = take c.loop-i.i t.bel_pins in
    let new_is : c.in-Ok.new ≡ not (list_any (Rules.is_pin_of p.bel p.name) before) = c.in-Ok.ensures.new ∙ ap (λ k. not (has_key c.loop-i.pins k)) c.pin_key.ensures ∙ ap not (has_pin_key before c.loop-i.pins p.bel p.name c.loop-i.invariant.table_is) in
    let bel_is : c.has-has_bel.result ≡ Rules.has_bel t p.bel = c.has-has_bel.ensures ∙ ap (has_key c.args.bels.now) (c.new.ensures ∙ ap (λ n. key c.args.number 0 n) c.get.ensures) ∙ c.requires p.bel in
    let fits : (c.in-Ok.new || not c.has-has_bel.result) ≡ not (Rules.has_bel t p.bel && list_any (Rules.is_pin_of p.bel p.name) before) = (λ i. new_is i || not (bel_is i)) ∙ not_both (Rules.has_bel t p.bel) (list_any (Rules.is_pin_of p.bel p.name) before) in
    each_stops (Rules.bel_pin_names t) (t.bel_pins) _ c.loop-i.i c.at-pin.result.now c.at-pin.ensures c.loop-i.invariant.walked (entered_as fits c.in-Err.ensures)
