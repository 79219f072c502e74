use Rattle.std.proofs.Common.{sym}
use Rattle.std.proofs.lemmas.Result.{err_from_is_err_and}
use Rattle.ix_message.specs.Reading.{row_at}
use Rattle.ix_schema.specs.Said.{said}
use Rattle.ix_device_read.specs.Finish.{finish_at, finish_row}
use Rattle.ix_device_read.specs.Views.{sizes_of, kind_word, field_word}
use Rattle.ix_device_read.proofs.Each.{stops_first}
use Rattle.ix_frame.specs.Views.{object_of}
use Rattle.ix_device_read.proofs.Root.{root_done}
use Rattle.ix_device_read.proofs.Rooted.{root_said}
use Rattle.ix_device_read.proofs.device.DeviceRecTake.take.Goals as goal

pub returns-in_err-name-clause-made : goal.returns-in_err-name-clause-made
unfolding finish_at finish_row said row_at kind_word field_word
returns-in_err-name-clause-made c =
    let p = err_from_is_err_and c.from_residual.result c.from_residual.ensures.1 in
    rw (p.1, p.2, c.begin.ensures) (stops_first c.in_err-name.field-0.0 _ _ (stops_first c.in_err-name.field-0.0 _ _ c.in_err-name.ensures.made))

pub returns-in_err-site_type_list-clause-made : goal.returns-in_err-site_type_list-clause-made
unfolding finish_at finish_row said row_at kind_word field_word
returns-in_err-site_type_list-clause-made c =
    let p = err_from_is_err_and c.from_residual-in_err-site_type_list.result c.from_residual-in_err-site_type_list.ensures.1 in
    rw (p.1, p.2, c.begin.ensures, c.in_ok-name.ensures.made) (stops_first c.in_err-site_type_list.field-0.0 _ _ (stops_first c.in_err-site_type_list.field-0.0 _ _ (stops_first c.in_err-site_type_list.field-0.0 _ _ c.in_err-site_type_list.ensures.made)))

pub returns-in_err-tile_type_list-clause-made : goal.returns-in_err-tile_type_list-clause-made
unfolding finish_at finish_row said row_at kind_word field_word
returns-in_err-tile_type_list-clause-made c =
    let p = err_from_is_err_and c.from_residual-in_err-tile_type_list.result c.from_residual-in_err-tile_type_list.ensures.1 in
    rw (p.1, p.2, c.begin.ensures, c.in_ok-name.ensures.made, c.in_ok-site_type_list.ensures.made) (stops_first c.in_err-tile_type_list.field-0.0 _ _ (stops_first c.in_err-tile_type_list.field-0.0 _ _ (stops_first c.in_err-tile_type_list.field-0.0 _ _ (stops_first c.in_err-tile_type_list.field-0.0 _ _ c.in_err-tile_type_list.ensures.made))))

pub returns-in_err-tile_list-clause-made : goal.returns-in_err-tile_list-clause-made
unfolding finish_at finish_row said row_at kind_word field_word
returns-in_err-tile_list-clause-made c =
    let p = err_from_is_err_and c.from_residual-in_err-tile_list.result c.from_residual-in_err-tile_list.ensures.1 in
    rw (p.1, p.2, c.begin.ensures, c.in_ok-name.ensures.made, c.in_ok-site_type_list.ensures.made, c.in_ok-tile_type_list.ensures.made) (stops_first c.in_err-tile_list.field-0.0 _ _ (stops_first c.in_err-tile_list.field-0.0 _ _ (stops_first c.in_err-tile_list.field-0.0 _ _ (stops_first c.in_err-tile_list.field-0.0 _ _ (stops_first c.in_err-tile_list.field-0.0 _ _ c.in_err-tile_list.ensures.made)))))

pub returns-in_err-wires-clause-made : goal.returns-in_err-wires-clause-made
unfolding finish_at finish_row said row_at kind_word field_word
returns-in_err-wires-clause-made c =
    let p = err_from_is_err_and c.from_residual-in_err-wires.result c.from_residual-in_err-wires.ensures.1 in
    rw (p.1, p.2, c.begin.ensures, c.in_ok-name.ensures.made, c.in_ok-site_type_list.ensures.made, c.in_ok-tile_type_list.ensures.made, c.in_ok-tile_list.ensures.made) (stops_first c.in_err-wires.field-0.0 _ _ (stops_first c.in_err-wires.field-0.0 _ _ (stops_first c.in_err-wires.field-0.0 _ _ (stops_first c.in_err-wires.field-0.0 _ _ (stops_first c.in_err-wires.field-0.0 _ _ (stops_first c.in_err-wires.field-0.0 _ _ c.in_err-wires.ensures.made))))))

pub returns-in_err-nodes-clause-made : goal.returns-in_err-nodes-clause-made
unfolding finish_at finish_row said row_at kind_word field_word
returns-in_err-nodes-clause-made c =
    let p = err_from_is_err_and c.from_residual-in_err-nodes.result c.from_residual-in_err-nodes.ensures.1 in
    rw (p.1, p.2, c.begin.ensures, c.in_ok-name.ensures.made, c.in_ok-site_type_list.ensures.made, c.in_ok-tile_type_list.ensures.made, c.in_ok-tile_list.ensures.made, c.in_ok-wires.ensures.made) (stops_first c.in_err-nodes.field-0.0 _ _ (stops_first c.in_err-nodes.field-0.0 _ _ (stops_first c.in_err-nodes.field-0.0 _ _ (stops_first c.in_err-nodes.field-0.0 _ _ (stops_first c.in_err-nodes.field-0.0 _ _ (stops_first c.in_err-nodes.field-0.0 _ _ (stops_first c.in_err-nodes.field-0.0 _ _ c.in_err-nodes.ensures.made)))))))

pub returns-in_err-cell_bel_map-clause-made : goal.returns-in_err-cell_bel_map-clause-made
unfolding finish_at finish_row said row_at kind_word field_word
returns-in_err-cell_bel_map-clause-made c =
    let p = err_from_is_err_and c.from_residual-in_err-cell_bel_map.result c.from_residual-in_err-cell_bel_map.ensures.1 in
    rw (p.1, p.2, c.begin.ensures, c.in_ok-name.ensures.made, c.in_ok-site_type_list.ensures.made, c.in_ok-tile_type_list.ensures.made, c.in_ok-tile_list.ensures.made, c.in_ok-wires.ensures.made, c.in_ok-nodes.ensures.made) (stops_first c.in_err-cell_bel_map.field-0.0 _ _ (stops_first c.in_err-cell_bel_map.field-0.0 _ _ (stops_first c.in_err-cell_bel_map.field-0.0 _ _ (stops_first c.in_err-cell_bel_map.field-0.0 _ _ (stops_first c.in_err-cell_bel_map.field-0.0 _ _ (stops_first c.in_err-cell_bel_map.field-0.0 _ _ (stops_first c.in_err-cell_bel_map.field-0.0 _ _ (stops_first c.in_err-cell_bel_map.field-0.0 _ _ c.in_err-cell_bel_map.ensures.made))))))))

pub returns-in_err-packages-clause-made : goal.returns-in_err-packages-clause-made
unfolding finish_at finish_row said row_at kind_word field_word
returns-in_err-packages-clause-made c =
    let p = err_from_is_err_and c.from_residual-in_err-packages.result c.from_residual-in_err-packages.ensures.1 in
    rw (p.1, p.2, c.begin.ensures, c.in_ok-name.ensures.made, c.in_ok-site_type_list.ensures.made, c.in_ok-tile_type_list.ensures.made, c.in_ok-tile_list.ensures.made, c.in_ok-wires.ensures.made, c.in_ok-nodes.ensures.made, c.in_ok-cell_bel_map.ensures.made) (stops_first c.in_err-packages.field-0.0 _ _ (stops_first c.in_err-packages.field-0.0 _ _ (stops_first c.in_err-packages.field-0.0 _ _ (stops_first c.in_err-packages.field-0.0 _ _ (stops_first c.in_err-packages.field-0.0 _ _ (stops_first c.in_err-packages.field-0.0 _ _ (stops_first c.in_err-packages.field-0.0 _ _ (stops_first c.in_err-packages.field-0.0 _ _ (stops_first c.in_err-packages.field-0.0 _ _ c.in_err-packages.ensures.made)))))))))

pub returns-in_err-constants-clause-made : goal.returns-in_err-constants-clause-made
unfolding finish_at finish_row said row_at kind_word field_word
returns-in_err-constants-clause-made c =
    let p = err_from_is_err_and c.from_residual-in_err-constants.result c.from_residual-in_err-constants.ensures.1 in
    rw (p.1, p.2, c.begin.ensures, c.in_ok-name.ensures.made, c.in_ok-site_type_list.ensures.made, c.in_ok-tile_type_list.ensures.made, c.in_ok-tile_list.ensures.made, c.in_ok-wires.ensures.made, c.in_ok-nodes.ensures.made, c.in_ok-cell_bel_map.ensures.made, c.in_ok-packages.ensures.made) (stops_first c.in_err-constants.field-0.0 _ _ (stops_first c.in_err-constants.field-0.0 _ _ (stops_first c.in_err-constants.field-0.0 _ _ (stops_first c.in_err-constants.field-0.0 _ _ (stops_first c.in_err-constants.field-0.0 _ _ (stops_first c.in_err-constants.field-0.0 _ _ (stops_first c.in_err-constants.field-0.0 _ _ (stops_first c.in_err-constants.field-0.0 _ _ (stops_first c.in_err-constants.field-0.0 _ _ (stops_first c.in_err-constants.field-0.0 _ _ c.in_err-constants.ensures.made))))))))))

pub returns-in_err-lut_definitions-clause-made : goal.returns-in_err-lut_definitions-clause-made
unfolding finish_at finish_row said row_at kind_word field_word
returns-in_err-lut_definitions-clause-made c =
    let p = err_from_is_err_and c.from_residual-in_err-lut_definitions.result c.from_residual-in_err-lut_definitions.ensures.1 in
    rw (p.1, p.2, c.begin.ensures, c.in_ok-name.ensures.made, c.in_ok-site_type_list.ensures.made, c.in_ok-tile_type_list.ensures.made, c.in_ok-tile_list.ensures.made, c.in_ok-wires.ensures.made, c.in_ok-nodes.ensures.made, c.in_ok-cell_bel_map.ensures.made, c.in_ok-packages.ensures.made, c.in_ok-constants.ensures.made) (stops_first c.in_err-lut_definitions.field-0.0 _ _ (stops_first c.in_err-lut_definitions.field-0.0 _ _ (stops_first c.in_err-lut_definitions.field-0.0 _ _ (stops_first c.in_err-lut_definitions.field-0.0 _ _ (stops_first c.in_err-lut_definitions.field-0.0 _ _ (stops_first c.in_err-lut_definitions.field-0.0 _ _ (stops_first c.in_err-lut_definitions.field-0.0 _ _ (stops_first c.in_err-lut_definitions.field-0.0 _ _ (stops_first c.in_err-lut_definitions.field-0.0 _ _ (stops_first c.in_err-lut_definitions.field-0.0 _ _ (stops_first c.in_err-lut_definitions.field-0.0 _ _ c.in_err-lut_definitions.ensures.made)))))))))))

pub returns-clause-made : goal.returns-clause-made
returns-clause-made c =
    rw (root_said (object_of c.args.o)) (root_done (sizes_of c.args.ctx.now c.args.scope) c.args.walk.now _ _ _ _ _ _ _ _ _ _ _ _ _ _ _ _ _ _ _ _ c.begin.new.self c.list.new.walk c.list-2.new.walk c.list-3.new.walk c.list-4.new.walk c.list-5.new.walk c.list-6.new.walk c.list-7.new.walk c.option.new.walk c.one.new.walk (sym c.begin.ensures)
    c.in_ok-name.ensures.made c.in_ok-site_type_list.ensures.made c.in_ok-tile_type_list.ensures.made c.in_ok-tile_list.ensures.made c.in_ok-wires.ensures.made c.in_ok-nodes.ensures.made c.in_ok-cell_bel_map.ensures.made c.in_ok-packages.ensures.made c.in_ok-constants.ensures.made c.in_ok-lut_definitions.ensures.made)
