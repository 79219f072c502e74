use Rattle.std.proofs.Common.{refl}
use Rattle.std.proofs.lemmas.Result.{err_from_is_err_and}
use Rattle.ix_message.specs.Reading.{row_at}
use Rattle.ix_schema.specs.Said.{said}
use Rattle.ix_device_read.specs.Finish.{finish_at, finish_row}
use Rattle.ix_device_read.specs.Views.{kind_word, field_word}
use Rattle.ix_device_read.proofs.Each.{stops_first}
use Rattle.ix_device_read.proofs.lut.LutCellTake.take.Goals as goal

pub returns-in_err-cell-clause-made : goal.returns-in_err-cell-clause-made
unfolding finish_at finish_row said row_at kind_word field_word
returns-in_err-cell-clause-made c =
    let p = err_from_is_err_and c.from_residual-in_err-cell.result c.from_residual-in_err-cell.ensures.1 in
    rw (p.1, p.2, c.begin.ensures, c.in_ok-equation.ensures) (stops_first c.in_err-cell.field-0.0 _ _ (stops_first c.in_err-cell.field-0.0 _ _ c.in_err-cell.ensures.made))

pub returns-in_err-input_pins-clause-made : goal.returns-in_err-input_pins-clause-made
unfolding finish_at finish_row said row_at kind_word field_word
returns-in_err-input_pins-clause-made c =
    let p = err_from_is_err_and c.from_residual-in_err-input_pins.result c.from_residual-in_err-input_pins.ensures.1 in
    rw (p.1, p.2, c.begin.ensures, c.in_ok-equation.ensures, c.in_ok-cell.ensures.made) (stops_first c.in_err-input_pins.field-0.0 _ _ (stops_first c.in_err-input_pins.field-0.0 _ _ (stops_first c.in_err-input_pins.field-0.0 _ _ c.in_err-input_pins.ensures.made)))

pub returns-in_err-init_param-clause-made : goal.returns-in_err-init_param-clause-made
unfolding finish_at finish_row said row_at kind_word field_word
returns-in_err-init_param-clause-made c =
    let p = err_from_is_err_and c.from_residual-in_err-init_param.result c.from_residual-in_err-init_param.ensures.1 in
    rw (p.1, p.2, c.begin.ensures, c.in_ok-equation.ensures, c.in_ok-cell.ensures.made, c.in_ok-input_pins.ensures.made) (stops_first c.in_err-init_param.field-0.0 _ _ (stops_first c.in_err-init_param.field-0.0 _ _ (stops_first c.in_err-init_param.field-0.0 _ _ (stops_first c.in_err-init_param.field-0.0 _ _ c.in_err-init_param.ensures.made))))

pub returns-clause-made : goal.returns-clause-made
unfolding finish_at finish_row said row_at kind_word field_word
returns-clause-made c = rw (c.begin.ensures, c.in_ok-equation.ensures, c.in_ok-cell.ensures.made, c.in_ok-input_pins.ensures.made, c.in_ok-init_param.ensures.made) refl
