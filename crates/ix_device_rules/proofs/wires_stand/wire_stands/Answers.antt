use Rattle.std.proofs.Common.{◌≡◌, ◌∙◌, ◌∷◌, [], ap}
use Rattle.ix_message.specs.Indexes.{asked}
use Rattle.ix_keys.specs.Keys.{key_eq, name_key}
use Rattle.ix_device_rules.specs.Rules
use Rattle.ix_device_rules.proofs.Steps.{walks_then, stops_too, asked_as, entered_as}
use Rattle.ix_device_rules.proofs.TileWireLemmas.{named_tile, named_wire}
use Rattle.std.proofs.Common.{position, is_some}
use Rattle.ix_device_rules.proofs.wires_stand.wire_stands.Goals as goal

pub returns-in-Ok : goal.returns-in-Ok
returns-in-Ok c =
    let rec = c.args.rec.now in
    let w = c.args.wire.now in
    let place_is = c.find-place.ensures.place ∙ (λ i. position (key_eq (c.key_of.ensures i)) c.args.tiles.now) in
    let tile_fits : is_some c.find-place.result ≡ Rules.has_tile rec w.tile = named_tile rec.tile_list w.tile c.find-place.result (place_is ∙ ap (λ ks. position (key_eq (name_key w.tile)) ks) c.requires.tiles) in
    let wire_fits : c.has_wire-there.result ≡ Rules.has_tile_wire rec w.tile w.wire = c.has_wire-there.ensures ∙ named_wire rec c.args.tile_wires.now c.args.tiles.now c.requires.wires c.requires.tiles c.find-place.ensures.differ w.tile w.wire c.find-place.result place_is in
    walks_then (entered_as (c.is_some.ensures ∙ tile_fits) c.in-Ok.ensures) (asked_as wire_fits c.ask.ensures)

pub returns-in-Err : goal.returns-in-Err
returns-in-Err c =
    let rec = c.args.rec.now in
    let w = c.args.wire.now in
    let place_is = c.find-place.ensures.place ∙ (λ i. position (key_eq (c.key_of.ensures i)) c.args.tiles.now) in
    let tile_fits : is_some c.find-place.result ≡ Rules.has_tile rec w.tile = named_tile rec.tile_list w.tile c.find-place.result (place_is ∙ ap (λ ks. position (key_eq (name_key w.tile)) ks) c.requires.tiles) in
    stops_too (asked "Wire" "wire" (Rules.has_tile_wire rec w.tile w.wire) ∷ []) (entered_as (c.is_some.ensures ∙ tile_fits) c.in-Err.ensures)
