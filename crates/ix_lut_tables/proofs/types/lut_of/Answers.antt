use Rattle.std.proofs.Common.{◌∙◌, ap, sym, slice_get, option_and_then}
use Rattle.ix_keys.specs.Keys.{name_key}
use Rattle.ix_first.specs.First.{value_at}
use Rattle.ix_device.specs.Elements.{is_lut_cell}
use Rattle.ix_lut_tables.proofs.Places.{find_place}
use Rattle.ix_lut_tables.proofs.Sizes.{lut_sizes}
use Rattle.ix_lut_tables.proofs.types.lut_of.Goals as goal

pub returns-clause-lut : goal.returns-clause-lut
returns-clause-lut c = let cells = c.args.device.now.lut_definitions.lut_cells in
    ap (option_and_then (slice_get cells)) (c.get-2.ensures
    ∙ ap (value_at c.args.types.now) (c.of_name.ensures ∙ ap name_key c.get.ensures)
    ∙ c.requires c.args.ty)
    ∙ sym (find_place (is_lut_cell c.args.ty) cells)

pub returns-clause-sizes : goal.returns-clause-sizes
returns-clause-sizes c = lut_sizes c.args.ty c.args.device.now.lut_definitions.lut_cells
