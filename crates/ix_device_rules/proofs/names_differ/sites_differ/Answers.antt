use Rattle.std.proofs.Common.{◌≡◌, ◌∙◌, ◌||◌, not, take, map, ap}
use Rattle.ix_keys.specs.Keys.{has_key, with_key}
use Rattle.ix_device_rules.specs.Named.{site_key, site_is_new}
use Rattle.ix_device_rules.proofs.Steps.{entered_as, each_none, each_more, each_stops}
use Rattle.ix_device_rules.proofs.TableLemmas.{same_begin, same_on, has_either}
use Rattle.ix_device_rules.proofs.names_differ.sites_differ.Goals as goal

pub loop-i-init : goal.loop-i-init
loop-i-init c = record { walked = each_none (site_is_new c.args.names.now) c.args.sites.now c.args.walk.now; table_is = same_begin c.args.names.now }

pub loop-i-preserved : goal.loop-i-preserved
loop-i-preserved c =
    let x = c.at.result.now in
    let before = take c.loop-i.i c.args.sites.now in
    let fits : not (has_key c.loop-i.names c.key_of-key.result) ≡ not (has_key c.args.names.now (site_key x) || has_key (map site_key before) (site_key x)) = ap (λ k. not (has_key c.loop-i.names k)) c.key_of-key.ensures ∙ has_either c.args.names.now (map site_key before) c.loop-i.names (site_key x) c.loop-i.invariant.table_is in
    record {
      walked = each_more (site_is_new c.args.names.now) (c.args.sites.now) c.loop-i.i c.at.result.now c.at.ensures c.loop-i.invariant.walked (entered_as fits c.in-Ok.ensures.walks);
      table_is = same_on site_key c.args.names.now c.args.sites.now c.loop-i.i x c.loop-i.names c.enter_new.new.table c.at.ensures c.loop-i.invariant.table_is (c.in-Ok.ensures.keys ∙ ap (with_key c.loop-i.names) c.key_of-key.ensures);
    }

pub returns-in-Err-clause-walks : goal.returns-in-Err-clause-walks
returns-in-Err-clause-walks c =
    let x = c.at.result.now in
    let before = take c.loop-i.i c.args.sites.now in
    let fits : not (has_key c.loop-i.names c.key_of-key.result) ≡ not (has_key c.args.names.now (site_key x) || has_key (map site_key before) (site_key x)) = ap (λ k. not (has_key c.loop-i.names k)) c.key_of-key.ensures ∙ has_either c.args.names.now (map site_key before) c.loop-i.names (site_key x) c.loop-i.invariant.table_is in
    each_stops (site_is_new c.args.names.now) (c.args.sites.now) _ c.loop-i.i c.at.result.now c.at.ensures c.loop-i.invariant.walked (entered_as fits c.in-Err.ensures.walks)
