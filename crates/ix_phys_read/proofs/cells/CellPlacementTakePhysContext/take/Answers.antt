use Rattle.std.proofs.Common.{◌∙◌, length, refl}
use Rattle.std.proofs.lemmas.Result.{err_from_is_err_and}
use Rattle.ix_frame.specs.Views.{object_of, elements_of}
use Rattle.ix_message.specs.Indexes.{only_table}
use Rattle.ix_message.specs.Names.{record_of}
use Rattle.ix_message.specs.Phys.{pin_mapping}
use Rattle.ix_message.specs.Reading.{row_at}
use Rattle.ix_phys_write.specs.Record.{pin_mapping_record}
use Rattle.ix_schema.specs.Said.{said}
use Rattle.ix_take.specs.Views.{table_of}
use Rattle.ix_phys_read.proofs.Rows.{placement_walk, took, stuck}
use Rattle.ix_phys_read.proofs.cells.CellPlacementTakePhysContext.take.Goals as goal

pub returns-in_err-pin_map-clause-made : goal.returns-in_err-pin_map-clause-made
returns-in_err-pin_map-clause-made c =
    let lists = only_table (length (table_of c.args.ctx.now.texts)) in
    let o = object_of c.args.o in
    let p = err_from_is_err_and c.from_residual-in_err-pin_map.result
    c.from_residual-in_err-pin_map.ensures.1 in
    let walk = placement_walk lists o c.args.walk.now c.begin.new.self c.begin.ensures
    c.in_ok-cell_name.ensures.made.0 c.in_ok-ty.ensures.made.0 c.in_ok-site.ensures.made.0
    c.in_ok-bel.ensures.made.0 in
    rw (p.1, p.2, walk) (stuck c.in_err-pin_map.field-0.0 pin_mapping lists c.begin.new.self o 0
    (elements_of c.sound_list.result) c.sound_list.ensures c.in_err-pin_map.ensures.made)

pub returns-clause-made : goal.returns-clause-made
unfolding record_of said row_at
returns-clause-made c =
    let table = table_of c.args.ctx.now.texts in
    let lists = only_table (length table) in
    let o = object_of c.args.o in
    let walk = placement_walk lists o c.args.walk.now c.begin.new.self c.begin.ensures
    c.in_ok-cell_name.ensures.made.0 c.in_ok-ty.ensures.made.0 c.in_ok-site.ensures.made.0
    c.in_ok-bel.ensures.made.0 in
    let pins = took pin_mapping (pin_mapping_record c.args.ctx.now.texts.names.now) table lists
    c.begin.new.self c.in_ok-pin_map.pin_map c.take_list.new.walk o 0
    (elements_of c.sound_list.result) c.sound_list.ensures c.in_ok-pin_map.ensures.made in (
      rw (
        c.in_ok-cell_name.ensures.made.1,
        c.in_ok-ty.ensures.made.1,
        c.in_ok-site.ensures.made.1,
        c.in_ok-bel.ensures.made.1,
        pins.0,
      ) refl,
      walk ∙ pins.1,
    )
