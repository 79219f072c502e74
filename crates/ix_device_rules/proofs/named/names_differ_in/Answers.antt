use Rattle.std.proofs.Common.{◌≡◌, ◌∙◌, not, take, map, ap}
use Rattle.ix_keys.specs.Keys.{name_key, has_key, with_key}
use Rattle.ix_device_rules.specs.Kinds.{kind_name, field_name}
use Rattle.ix_device_rules.specs.Named.{name_is_new}
use Rattle.ix_device_rules.specs.Rules.{is_new}
use Rattle.ix_device_rules.proofs.Steps.{each_none, each_more, each_stops, entered_as}
use Rattle.ix_device_rules.proofs.TableLemmas.{same_none, same_more, new_name}
use Rattle.ix_device_rules.proofs.named.names_differ_in.Goals as goal

pub loop-i-init : goal.loop-i-init
loop-i-init g c = record {
  walked = each_none (name_is_new (kind_name c.args.kind) (field_name c.args.field) g.T.Named.name_of) c.args.items.now c.args.walk.now;
  table_is = same_none c.new-names.result c.new-names.ensures;
}

pub loop-i-preserved : goal.loop-i-preserved
loop-i-preserved g c =
    let name_of = g.T.Named.name_of in
    let x = c.at.result.now in
    let key_is : c.of_name-key.result ≡ name_key (name_of x) = c.of_name-key.ensures ∙ ap name_key (c.get.ensures ∙ c.name.ensures) in
    let fits : not (has_key c.loop-i.names c.of_name-key.result) ≡ is_new (map name_of (take c.loop-i.i c.args.items.now)) (name_of x) = ap (λ k. not (has_key c.loop-i.names k)) key_is ∙ new_name name_of (take c.loop-i.i c.args.items.now) (name_of x) c.loop-i.names c.loop-i.invariant.table_is in
    record {
      walked = each_more (name_is_new (kind_name c.args.kind) (field_name c.args.field) name_of) c.args.items.now c.loop-i.i x c.at.ensures c.loop-i.invariant.walked (entered_as fits c.in-Ok.ensures.walks);
      table_is = same_more (λ y. name_key (name_of y)) c.args.items.now c.loop-i.i x c.loop-i.names c.enter_new.new.table c.at.ensures c.loop-i.invariant.table_is (c.in-Ok.ensures.keys ∙ ap (with_key c.loop-i.names) key_is);
    }

pub returns-in-Err : goal.returns-in-Err
returns-in-Err g c =
    let name_of = g.T.Named.name_of in
    let x = c.at.result.now in
    let key_is : c.of_name-key.result ≡ name_key (name_of x) = c.of_name-key.ensures ∙ ap name_key (c.get.ensures ∙ c.name.ensures) in
    let fits : not (has_key c.loop-i.names c.of_name-key.result) ≡ is_new (map name_of (take c.loop-i.i c.args.items.now)) (name_of x) = ap (λ k. not (has_key c.loop-i.names k)) key_is ∙ new_name name_of (take c.loop-i.i c.args.items.now) (name_of x) c.loop-i.names c.loop-i.invariant.table_is in
    each_stops (name_is_new (kind_name c.args.kind) (field_name c.args.field) name_of) c.args.items.now c.enter_new.new.self c.loop-i.i x c.at.ensures c.loop-i.invariant.walked (entered_as fits c.in-Err.ensures.walks)
