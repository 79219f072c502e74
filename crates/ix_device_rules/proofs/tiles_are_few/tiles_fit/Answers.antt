use Rattle.std.proofs.Common.{◌≡◌, ◌∙◌, ◌∷◌, ◌+◌, ◌&&◌, [], take, map, length, slice_get, ap, refl, sym, arith}
use Rattle.ix_message.specs.Indexes.{asked}
use Rattle.ix_device_rules.specs.Rules
use Rattle.ix_device_rules.proofs.Steps.{entered_as, each_none, each_more, each_stops, each_done}
use Rattle.std.proofs.Common.{nat_le, ◌^◌, unwrap_or}
use Rattle.std.specs.List.{sum_by}
use Rattle.ix_device_rules.specs.Sizes.{size_of, no_size}
use Rattle.ix_device_rules.proofs.SizeLemmas.{sum_more, wires_is, pips_is, wires_fit, pips_fit, both_few, uncapped}
use Rattle.ix_device_rules.proofs.Steps.{up_to, entered_fits}
use Rattle.ix_device_rules.proofs.tiles_are_few.tiles_fit.Goals as goal

pub loop-i-init : goal.loop-i-init
loop-i-init c = record { walked = each_none (Rules.tile_is_small c.args.rec.now) c.args.rec.now.tile_list c.args.walk.now; wires_are = refl; pips_are = refl; few_wires = omega arith; few_pips = omega arith }

pub loop-i-preserved : goal.loop-i-preserved
loop-i-preserved c =
    let rec = c.args.rec.now in
    let t = c.at-tile.result.now in
    let before = take c.loop-i.i rec.tile_list in
    let size = c.size_at-size.result in
    let so_far = c.loop-i.invariant in
    let size_is : size ≡ unwrap_or (slice_get (map size_of rec.tile_type_list) t.ty) no_size = c.size_at-size.ensures ∙ ap (λ ss. unwrap_or (slice_get ss t.ty) no_size) c.requires in
    let fits : (nat_le (c.loop-i.wires + size.wires) (2 ^ 28) && nat_le (c.loop-i.pips + size.pips) (2 ^ 29)) ≡ (Rules.at_most Rules.most_tile_wires (Rules.count_in_tile (λ ty. length ty.wires) rec) before t && Rules.at_most Rules.most_directed_pips (Rules.count_in_tile Rules.directed_pips rec) before t) =
    (λ i. wires_fit rec before t size size_is c.loop-i.wires so_far.wires_are i && pips_fit rec before t size size_is c.loop-i.pips so_far.pips_are so_far.few_pips i) in
    let steps = asked "Tile" "row" (nat_le t.row Rules.most_row) ∷ asked "Tile" "col" (nat_le t.col Rules.most_row) ∷ [] in
    let within = both_few (c.loop-i.wires + size.wires) (c.loop-i.pips + size.pips) (2 ^ 28) (2 ^ 29) (entered_fits c.in-Ok.field-0 "Tile" "type" steps (nat_le (c.loop-i.wires + size.wires) (2 ^ 28) && nat_le (c.loop-i.pips + size.pips) (2 ^ 29)) c.loop-i.walk c.tile_fits.new.walk c.in-Ok.ensures) in
    let exact = uncapped c.loop-i.pips (Rules.count_in_tile Rules.directed_pips rec t) size.pips (pips_is rec before t size size_is) within.1 in
    let next = up_to rec.tile_list c.loop-i.i t c.at-tile.ensures in
    record {
      walked = each_more (Rules.tile_is_small rec) rec.tile_list c.loop-i.i t c.at-tile.ensures so_far.walked (entered_as fits c.in-Ok.ensures);
      wires_are = (λ i. so_far.wires_are i + wires_is rec before t size size_is i) ∙ sym (sum_more (Rules.count_in_tile (λ ty. length ty.wires) rec) before t) ∙ ap (sum_by (Rules.count_in_tile (λ ty. length ty.wires) rec)) (sym next);
      pips_are = (λ i. so_far.pips_are i + exact i) ∙ sym (sum_more (Rules.count_in_tile Rules.directed_pips rec) before t) ∙ ap (sum_by (Rules.count_in_tile Rules.directed_pips rec)) (sym next);
      few_wires = within.0;
      few_pips = within.1;
    }

pub returns-in-Err : goal.returns-in-Err
unfolding Rules.tiles_are_few
returns-in-Err c =
    let rec = c.args.rec.now in
    let t = c.at-tile.result.now in
    let before = take c.loop-i.i rec.tile_list in
    let size = c.size_at-size.result in
    let so_far = c.loop-i.invariant in
    let size_is : size ≡ unwrap_or (slice_get (map size_of rec.tile_type_list) t.ty) no_size = c.size_at-size.ensures ∙ ap (λ ss. unwrap_or (slice_get ss t.ty) no_size) c.requires in
    let fits : (nat_le (c.loop-i.wires + size.wires) (2 ^ 28) && nat_le (c.loop-i.pips + size.pips) (2 ^ 29)) ≡ (Rules.at_most Rules.most_tile_wires (Rules.count_in_tile (λ ty. length ty.wires) rec) before t && Rules.at_most Rules.most_directed_pips (Rules.count_in_tile Rules.directed_pips rec) before t) =
    (λ i. wires_fit rec before t size size_is c.loop-i.wires so_far.wires_are i && pips_fit rec before t size size_is c.loop-i.pips so_far.pips_are so_far.few_pips i) in
    each_stops (Rules.tile_is_small rec) rec.tile_list _ c.loop-i.i t c.at-tile.ensures so_far.walked (entered_as fits c.in-Err.ensures)

pub returns : goal.returns
unfolding Rules.tiles_are_few
returns c = each_done (Rules.tile_is_small c.args.rec.now) c.args.rec.now.tile_list c.loop-i.i (omega arith) c.loop-i.invariant.walked
