use Rattle.ix_device_rules.specs.Rules
use Rattle.ix_device_rules.proofs.Steps.{walks_as, flat_none, flat_more, flat_stops}
use Rattle.ix_device_rules.proofs.WireLemmas.{wires_there}
use Rattle.ix_device_rules.proofs.site_pins_have_wires.tile_type_fits.Goals as goal

pub loop-i-init : goal.loop-i-init
loop-i-init c = flat_none (Rules.site_pins_stand c.args.rec.now c.args.tile_type.now) (c.args.tile_type.now.site_types) c.args.walk.now

pub loop-i-preserved : goal.loop-i-preserved
loop-i-preserved c =
    let as_wires = wires_there c.args.rec.now c.args.tile_type.now c.args.wires.now c.args.number c.requires c.at.result.now in
    flat_more (Rules.site_pins_stand c.args.rec.now c.args.tile_type.now) (c.args.tile_type.now.site_types) c.loop-i.i c.at.result.now c.at.ensures c.loop-i.invariant (walks_as as_wires c.in-Ok.ensures)

pub returns-in-Err : goal.returns-in-Err
returns-in-Err c =
    let as_wires = wires_there c.args.rec.now c.args.tile_type.now c.args.wires.now c.args.number c.requires c.at.result.now in
    flat_stops (Rules.site_pins_stand c.args.rec.now c.args.tile_type.now) (c.args.tile_type.now.site_types) _ c.loop-i.i c.at.result.now c.at.ensures c.loop-i.invariant (walks_as as_wires c.in-Err.ensures)
