use Rattle.std.proofs.Common.{refl}
use Rattle.std.proofs.lemmas.Result.{err_from_is_err_and}
use Rattle.ix_message.specs.Reading.{row_at}
use Rattle.ix_schema.specs.Said.{said}
use Rattle.ix_device_read.specs.Finish.{finish_at, finish_row}
use Rattle.ix_device_read.specs.Views.{kind_word, field_word}
use Rattle.ix_device_read.proofs.Each.{stops_first}
use Rattle.ix_device_read.proofs.tile_type.TileTypeTake.take.Goals as goal

pub returns-in_err-site_types-clause-made : goal.returns-in_err-site_types-clause-made
unfolding finish_at finish_row said row_at kind_word field_word
returns-in_err-site_types-clause-made c =
    let p = err_from_is_err_and c.from_residual-in_err-site_types.result c.from_residual-in_err-site_types.ensures.1 in
    rw (p.1, p.2, c.begin.ensures, ← c.number_count.ensures, c.in_ok-name.ensures.made) (stops_first c.in_err-site_types.field-0.0 _ _ (stops_first c.in_err-site_types.field-0.0 _ _ c.in_err-site_types.ensures.made))

pub returns-in_err-wires-clause-made : goal.returns-in_err-wires-clause-made
unfolding finish_at finish_row said row_at kind_word field_word
returns-in_err-wires-clause-made c =
    let p = err_from_is_err_and c.from_residual-in_err-wires.result c.from_residual-in_err-wires.ensures.1 in
    rw (p.1, p.2, c.begin.ensures, ← c.number_count.ensures, c.in_ok-name.ensures.made, c.in_ok-site_types.ensures.made) (stops_first c.in_err-wires.field-0.0 _ _ (stops_first c.in_err-wires.field-0.0 _ _ (stops_first c.in_err-wires.field-0.0 _ _ c.in_err-wires.ensures.made)))

pub returns-in_err-pips-clause-made : goal.returns-in_err-pips-clause-made
unfolding finish_at finish_row said row_at kind_word field_word
returns-in_err-pips-clause-made c =
    let p = err_from_is_err_and c.from_residual-in_err-pips.result c.from_residual-in_err-pips.ensures.1 in
    rw (p.1, p.2, c.begin.ensures, ← c.number_count.ensures, c.in_ok-name.ensures.made, c.in_ok-site_types.ensures.made, c.in_ok-wires.ensures.made) (stops_first c.in_err-pips.field-0.0 _ _ (stops_first c.in_err-pips.field-0.0 _ _ (stops_first c.in_err-pips.field-0.0 _ _ (stops_first c.in_err-pips.field-0.0 _ _ c.in_err-pips.ensures.made))))

pub returns-in_err-constants-clause-made : goal.returns-in_err-constants-clause-made
unfolding finish_at finish_row said row_at kind_word field_word
returns-in_err-constants-clause-made c =
    let p = err_from_is_err_and c.from_residual-in_err-constants.result c.from_residual-in_err-constants.ensures.1 in
    rw (p.1, p.2, c.begin.ensures, ← c.number_count.ensures, c.in_ok-name.ensures.made, c.in_ok-site_types.ensures.made, c.in_ok-wires.ensures.made, c.in_ok-pips.ensures.made) (stops_first c.in_err-constants.field-0.0 _ _ (stops_first c.in_err-constants.field-0.0 _ _ (stops_first c.in_err-constants.field-0.0 _ _ (stops_first c.in_err-constants.field-0.0 _ _ (stops_first c.in_err-constants.field-0.0 _ _ c.in_err-constants.ensures.made)))))

pub returns-clause-made : goal.returns-clause-made
unfolding finish_at finish_row said row_at kind_word field_word
returns-clause-made c = rw (c.begin.ensures, ← c.number_count.ensures, c.in_ok-name.ensures.made, c.in_ok-site_types.ensures.made, c.in_ok-wires.ensures.made, c.in_ok-pips.ensures.made, c.in_ok-constants.ensures.made) refl
