use Rattle.std.proofs.Common.{◌≡◌, ◌∙◌, not, take, ap}
use Rattle.ix_keys.specs.Keys.{name_key, has_key, with_key}
use Rattle.ix_device_rules.specs.Rules
use Rattle.ix_device_rules.proofs.Steps.{asked_as, each_none, each_more, each_stops}
use Rattle.ix_device_rules.proofs.TableLemmas.{same_none, same_more, new_name}
use Rattle.std.proofs.lemmas.List.{map-id}
use Rattle.ix_device_rules.proofs.names_differ.wires_differ.Goals as goal

pub loop-i-init : goal.loop-i-init
loop-i-init c = record { walked = each_none Rules.wire_names c.args.wires.now c.args.walk.now; table_is = same_none _ c.new-names.ensures }

pub loop-i-preserved : goal.loop-i-preserved
loop-i-preserved c =
    let x = c.at.result.now in
    let fits : not (has_key c.loop-i.names c.key_of-key.result) ≡ Rules.is_new (take c.loop-i.i c.args.wires.now) x = ap (λ k. not (has_key c.loop-i.names k)) c.key_of-key.ensures ∙ new_name (λ n. n) (take c.loop-i.i c.args.wires.now) x c.loop-i.names c.loop-i.invariant.table_is ∙ ap (λ ns. Rules.is_new ns x) (map-id (take c.loop-i.i c.args.wires.now)) in
    record {
      walked = each_more (Rules.wire_names) (c.args.wires.now) c.loop-i.i c.at.result.now c.at.ensures c.loop-i.invariant.walked (asked_as fits c.in-Ok.ensures.walks);
      table_is = same_more (λ w. name_key w) c.args.wires.now c.loop-i.i x c.loop-i.names c.ask_new.new.table c.at.ensures c.loop-i.invariant.table_is (c.in-Ok.ensures.keys ∙ ap (with_key c.loop-i.names) c.key_of-key.ensures);
    }

pub returns-in-Err : goal.returns-in-Err
returns-in-Err c =
    let x = c.at.result.now in
    let fits : not (has_key c.loop-i.names c.key_of-key.result) ≡ Rules.is_new (take c.loop-i.i c.args.wires.now) x = ap (λ k. not (has_key c.loop-i.names k)) c.key_of-key.ensures ∙ new_name (λ n. n) (take c.loop-i.i c.args.wires.now) x c.loop-i.names c.loop-i.invariant.table_is ∙ ap (λ ns. Rules.is_new ns x) (map-id (take c.loop-i.i c.args.wires.now)) in
    each_stops (Rules.wire_names) (c.args.wires.now) _ c.loop-i.i c.at.result.now c.at.ensures c.loop-i.invariant.walked (asked_as fits c.in-Err.ensures.walks)
