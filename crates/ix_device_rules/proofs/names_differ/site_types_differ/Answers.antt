use Rattle.std.proofs.Common.{◌≡◌, ◌∙◌, ◌++◌, not, take, map, ap}
use Rattle.ix_keys.specs.Keys.{has_key}
use Rattle.ix_device_rules.specs.Rules
use Rattle.ix_device_rules.proofs.Steps.{entered_as, each_none, each_more, each_stops}
use Rattle.ix_device_rules.proofs.TableLemmas.{new_name}
use Rattle.ix_device_rules.specs.Named.{site_type_key}
use Rattle.ix_device_rules.proofs.TableLemmas.{same_is, exact_more}
use Rattle.ix_device_rules.proofs.Steps.{entered_fits}
use Rattle.ix_device_rules.proofs.names_differ.site_types_differ.Goals as goal

pub loop-i-init : goal.loop-i-init
loop-i-init c = record { walked = each_none Rules.site_type_names c.args.types.now c.args.walk.now; names_are = c.requires.names }

pub loop-i-preserved : goal.loop-i-preserved
loop-i-preserved c =
    let x = c.at-site_type.result.now in
    let types = c.args.types.now in
    let before = take c.loop-i.i types in
    let so_far = c.loop-i.invariant in
    let fits : c.in-Ok-add.new ≡ Rules.is_new (map (λ u. u.name) before) x.name = c.in-Ok-add.ensures.new ∙ ap (λ k. not (has_key c.loop-i.names k)) c.key_of.ensures ∙ new_name (λ u. u.name) before x.name c.loop-i.names (same_is c.loop-i.names (map site_type_key before) so_far.names_are) in
    let rest = Rules.each_by_earlier (Rules.bel_pin_names x) x.bel_pins ++ Rules.each_by_earlier Rules.site_pin_names x.pins ++ Rules.each_by_earlier Rules.bel_names x.bels in
    let told = entered_fits c.in-Ok-site_type_differs.field-0 "SiteType" "name" rest c.in-Ok-add.new c.loop-i.walk c.site_type_differs.new.walk c.in-Ok-site_type_differs.ensures in
    record {
      walked = each_more Rules.site_type_names types c.loop-i.i x c.at-site_type.ensures so_far.walked (entered_as fits c.in-Ok-site_type_differs.ensures);
      names_are = exact_more site_type_key types c.loop-i.i x c.loop-i.names c.add.new.self c.key_of.result c.in-Ok-add.new c.at-site_type.ensures so_far.names_are c.in-Ok-add.ensures.keys c.key_of.ensures c.in-Ok-add.ensures.new told;
    }

pub returns-in-Err-clause-walks : goal.returns-in-Err-clause-walks
returns-in-Err-clause-walks c =
    let x = c.at-site_type.result.now in
    let types = c.args.types.now in
    let before = take c.loop-i.i types in
    let so_far = c.loop-i.invariant in
    let fits : c.in-Ok-add.new ≡ Rules.is_new (map (λ u. u.name) before) x.name = c.in-Ok-add.ensures.new ∙ ap (λ k. not (has_key c.loop-i.names k)) c.key_of.ensures ∙ new_name (λ u. u.name) before x.name c.loop-i.names (same_is c.loop-i.names (map site_type_key before) so_far.names_are) in
    each_stops Rules.site_type_names types _ c.loop-i.i x c.at-site_type.ensures so_far.walked (entered_as fits c.in-Err.ensures)
