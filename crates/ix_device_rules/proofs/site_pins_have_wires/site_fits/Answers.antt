use Rattle.std.proofs.Common.{◌≡◌, length}
use Rattle.std.specs.List.{flat_map}
use Rattle.ix_device_rules.specs.Rules
use Rattle.ix_device_rules.proofs.Steps.{walks_then, stops_too, entered_as}
use Rattle.std.proofs.Common.{nat_eq}
use Rattle.ix_device_rules.specs.Tables.{wire_is_there}
use Rattle.ix_device_rules.proofs.site_pins_have_wires.site_fits.Goals as goal

pub returns-in-Ok : goal.returns-in-Ok
returns-in-Ok c = let fits : nat_eq c.len.result c.pin_count.result ≡ nat_eq (length c.args.site.now.primary_pins_to_tile_wires) (Rules.pin_count c.args.rec.now c.args.site.now.primary_type) = (λ i. nat_eq (c.len.ensures i) (c.pin_count.ensures i)) in
    walks_then (entered_as fits c.in-Ok.ensures) c.wires_are_there.ensures

pub returns-in-Err : goal.returns-in-Err
returns-in-Err c = let fits : nat_eq c.len.result c.pin_count.result ≡ nat_eq (length c.args.site.now.primary_pins_to_tile_wires) (Rules.pin_count c.args.rec.now c.args.site.now.primary_type) = (λ i. nat_eq (c.len.ensures i) (c.pin_count.ensures i)) in
    stops_too (flat_map (wire_is_there c.args.wires.now c.args.number) c.args.site.now.primary_pins_to_tile_wires) (entered_as fits c.in-Err.ensures)
