use Rattle.std.proofs.Common.{◌≡◌, ◌∙◌, ◌||◌, not, take, map, ap}
use Rattle.ix_keys.specs.Keys.{name_key, has_key, with_key}
use Rattle.ix_device_rules.proofs.Steps.{asked_as, each_none, each_more, each_stops}
use Rattle.ix_device_rules.proofs.TableLemmas.{same_begin, same_on, has_either}
use Rattle.ix_device_rules.specs.Named.{pin_is_new}
use Rattle.ix_device_rules.proofs.pins_on_one_wire.pins_are_new.Goals as goal

pub loop-i-init : goal.loop-i-init
loop-i-init c = record { walked = each_none (pin_is_new c.args.seen.now) c.args.pins.now c.args.walk.now; table_is = same_begin c.args.seen.now }

pub loop-i-preserved : goal.loop-i-preserved
loop-i-preserved c =
    let x = c.at.result.now in
    let before = take c.loop-i.i c.args.pins.now in
    let fits : not (has_key c.loop-i.seen c.pin_key-key.result) ≡ not (has_key c.args.seen.now (name_key x) || has_key (map (λ q. name_key q) before) (name_key x)) = ap (λ k. not (has_key c.loop-i.seen k)) c.pin_key-key.ensures ∙ has_either c.args.seen.now (map (λ q. name_key q) before) c.loop-i.seen (name_key x) c.loop-i.invariant.table_is in
    record {
      walked = each_more (pin_is_new c.args.seen.now) (c.args.pins.now) c.loop-i.i c.at.result.now c.at.ensures c.loop-i.invariant.walked (asked_as fits c.in-Ok.ensures.walks);
      table_is = same_on (λ q. name_key q) c.args.seen.now c.args.pins.now c.loop-i.i x c.loop-i.seen c.ask_new.new.table c.at.ensures c.loop-i.invariant.table_is (c.in-Ok.ensures.keys ∙ ap (with_key c.loop-i.seen) c.pin_key-key.ensures);
    }

pub returns-in-Err-clause-walks : goal.returns-in-Err-clause-walks
returns-in-Err-clause-walks c =
    let x = c.at.result.now in
    let before = take c.loop-i.i c.args.pins.now in
    let fits : not (has_key c.loop-i.seen c.pin_key-key.result) ≡ not (has_key c.args.seen.now (name_key x) || has_key (map (λ q. name_key q) before) (name_key x)) = ap (λ k. not (has_key c.loop-i.seen k)) c.pin_key-key.ensures ∙ has_either c.args.seen.now (map (λ q. name_key q) before) c.loop-i.seen (name_key x) c.loop-i.invariant.table_is in
    each_stops (pin_is_new c.args.seen.now) (c.args.pins.now) _ c.loop-i.i c.at.result.now c.at.ensures c.loop-i.invariant.walked (asked_as fits c.in-Err.ensures.walks)
