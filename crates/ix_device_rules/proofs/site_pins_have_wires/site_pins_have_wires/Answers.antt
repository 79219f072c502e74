use Rattle.std.proofs.Common.{arith}
use Rattle.ix_device_rules.specs.Rules
use Rattle.ix_device_rules.proofs.Steps.{flat_none, flat_more, flat_stops, flat_done}
use Rattle.ix_device_rules.proofs.site_pins_have_wires.site_pins_have_wires.Goals as goal

pub loop-i-init : goal.loop-i-init
loop-i-init c = flat_none (Rules.sites_of_tile_type c.args.rec.now) (c.args.rec.now.tile_type_list) c.args.walk.now

pub loop-i-preserved : goal.loop-i-preserved
loop-i-preserved c =
    flat_more (Rules.sites_of_tile_type c.args.rec.now) (c.args.rec.now.tile_type_list) c.loop-i.i c.at.result.now c.at.ensures c.loop-i.invariant (c.in-Ok-tile_type_fits.ensures)

pub returns-in-Err : goal.returns-in-Err
unfolding Rules.site_pins_have_wires
returns-in-Err c =
    flat_stops (Rules.sites_of_tile_type c.args.rec.now) (c.args.rec.now.tile_type_list) _ c.loop-i.i c.at.result.now c.at.ensures c.loop-i.invariant (c.in-Err.ensures)

pub returns : goal.returns
unfolding Rules.site_pins_have_wires
returns c = flat_done (Rules.sites_of_tile_type c.args.rec.now) (c.args.rec.now.tile_type_list) c.loop-i.i (omega arith) c.loop-i.invariant
