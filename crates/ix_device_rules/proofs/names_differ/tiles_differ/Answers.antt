use Rattle.std.proofs.Common.{◌≡◌, ◌∙◌, ◌∷◌, [], List, not, take, map, ap, sym}
use Rattle.std.specs.List.{flat_map}
use Rattle.ix_message.specs.Indexes.{Step, begun, asked}
use Rattle.ix_keys.specs.Keys.{has_key}
use Rattle.ix_device_rules.specs.Named.{site_key, site_is_new}
use Rattle.ix_device_rules.specs.Rules
use Rattle.ix_device_rules.proofs.Steps.{walks_as, by_earlier-same, flat_up_to, entered_as, each_none, each_more, each_stops}
use Rattle.ix_device_rules.proofs.TableLemmas.{same_none, same_as, same_join, new_name}
use Rattle.ix_device_rules.specs.Named.{tile_key}
use Rattle.ix_device_rules.proofs.TableLemmas.{same_is, exact_more}
use Rattle.ix_device_rules.proofs.Steps.{entered_fits}
use Rattle.ix_device_rules.proofs.NameLemmas.{site_new}
use Rattle.std.proofs.lemmas.List.{map-append}
use Rattle.ix_device_rules.proofs.names_differ.tiles_differ.Goals as goal

pub loop-i-init : goal.loop-i-init
loop-i-init c = record { walked = each_none Rules.tile_names c.args.tiles.now c.args.walk.now; names_are = c.requires; sites_are = same_none _ c.new-site_names.ensures }

pub loop-i-preserved : goal.loop-i-preserved
loop-i-preserved c =
    let x = c.at-tile.result.now in
    let tiles = c.args.tiles.now in
    let before = take c.loop-i.i tiles in
    let so_far = c.loop-i.invariant in
    let fits : c.in-Ok.new ≡ Rules.is_new (map (λ u. u.name) before) x.name = c.in-Ok.ensures.new ∙ ap (λ k. not (has_key c.loop-i.names k)) c.key_of.ensures ∙ new_name (λ u. u.name) before x.name c.loop-i.names (same_is c.loop-i.names (map tile_key before) so_far.names_are) in
    let as_sites = ap (λ (l : List Step). begun "Tile" ∷ asked "Tile" "name" (Rules.is_new (map (λ u. u.name) before) x.name) ∷ l) (by_earlier-same (site_is_new c.loop-i.site_names) (Rules.site_names before) (site_new before c.loop-i.site_names so_far.sites_are) [] x.sites) in
    let told = entered_fits c.in-Ok-tile_differs.field-0 "Tile" "name" (Rules.each_by_earlier (site_is_new c.loop-i.site_names) x.sites) c.in-Ok.new c.loop-i.walk c.tile_differs.new.walk c.in-Ok-tile_differs.ensures.walks in
    record {
      walked = each_more Rules.tile_names tiles c.loop-i.i x c.at-tile.ensures so_far.walked (walks_as as_sites (entered_as fits c.in-Ok-tile_differs.ensures.walks));
      names_are = exact_more tile_key tiles c.loop-i.i x c.loop-i.names c.add.new.self c.key_of.result c.in-Ok.new c.at-tile.ensures so_far.names_are c.in-Ok.ensures.keys c.key_of.ensures c.in-Ok.ensures.new told;
      sites_are = same_as (sym (map-append site_key (flat_map (λ t. t.sites) before) x.sites) ∙ ap (map site_key) (sym (flat_up_to (λ t. t.sites) tiles c.loop-i.i x c.at-tile.ensures))) (same_join c.loop-i.site_names c.tile_differs.new.site_names (map site_key (flat_map (λ t. t.sites) before)) (map site_key x.sites) so_far.sites_are c.in-Ok-tile_differs.ensures.names);
    }

pub returns-in-Err-clause-walks : goal.returns-in-Err-clause-walks
returns-in-Err-clause-walks c =
    let x = c.at-tile.result.now in
    let tiles = c.args.tiles.now in
    let before = take c.loop-i.i tiles in
    let so_far = c.loop-i.invariant in
    let fits : c.in-Ok.new ≡ Rules.is_new (map (λ u. u.name) before) x.name = c.in-Ok.ensures.new ∙ ap (λ k. not (has_key c.loop-i.names k)) c.key_of.ensures ∙ new_name (λ u. u.name) before x.name c.loop-i.names (same_is c.loop-i.names (map tile_key before) so_far.names_are) in
    let as_sites = ap (λ (l : List Step). begun "Tile" ∷ asked "Tile" "name" (Rules.is_new (map (λ u. u.name) before) x.name) ∷ l) (by_earlier-same (site_is_new c.loop-i.site_names) (Rules.site_names before) (site_new before c.loop-i.site_names so_far.sites_are) [] x.sites) in
    each_stops Rules.tile_names tiles _ c.loop-i.i x c.at-tile.ensures so_far.walked (walks_as as_sites (entered_as fits c.in-Err.ensures.walks))
