use Rattle.std.specs.List.{flat_map}
use Rattle.ix_device_rules.specs.Rules
use Rattle.ix_device_rules.proofs.Steps.{walks_then, stops_too}
use Rattle.ix_device_rules.proofs.names_differ.names_differ.Goals as goal

pub returns-in-Err-clause-walks : goal.returns-in-Err-clause-walks
unfolding Rules.names_differ
returns-in-Err-clause-walks c = stops_too (Rules.each_by_earlier Rules.cell_names c.args.rec.now.cell_bel_map) (stops_too (Rules.each_by_earlier Rules.tile_names c.args.rec.now.tile_list) (stops_too (flat_map Rules.tile_type_names c.args.rec.now.tile_type_list) (c.in-Err.ensures.walks)))

pub returns-in-Err-tile_types_differ-clause-walks : goal.returns-in-Err-tile_types_differ-clause-walks
unfolding Rules.names_differ
returns-in-Err-tile_types_differ-clause-walks c = stops_too (Rules.each_by_earlier Rules.cell_names c.args.rec.now.cell_bel_map) (stops_too (Rules.each_by_earlier Rules.tile_names c.args.rec.now.tile_list) (walks_then (c.in-Ok.ensures.walks) (c.in-Err-tile_types_differ.ensures)))

pub returns-in-Err-tiles_differ-clause-walks : goal.returns-in-Err-tiles_differ-clause-walks
unfolding Rules.names_differ
returns-in-Err-tiles_differ-clause-walks c = stops_too (Rules.each_by_earlier Rules.cell_names c.args.rec.now.cell_bel_map) (walks_then (walks_then (c.in-Ok.ensures.walks) (c.in-Ok-tile_types_differ.ensures)) (c.in-Err-tiles_differ.ensures.walks))

pub returns-clause-walks : goal.returns-clause-walks
unfolding Rules.names_differ
returns-clause-walks c = walks_then (walks_then (walks_then (c.in-Ok.ensures.walks) (c.in-Ok-tile_types_differ.ensures)) (c.in-Ok-tiles_differ.ensures.walks)) (c.names_differ_in.ensures)
