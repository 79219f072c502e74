use Rattle.std.proofs.Common.{refl}
use Rattle.std.proofs.lemmas.Result.{err_from_is_err_and}
use Rattle.ix_message.specs.Reading.{row_at}
use Rattle.ix_schema.specs.Said.{said}
use Rattle.ix_device_read.specs.Finish.{finish_at, finish_row}
use Rattle.ix_device_read.specs.Views.{kind_word, field_word}
use Rattle.ix_device_read.proofs.Each.{stops_first}
use Rattle.ix_device_read.proofs.cell_map.SiteTypeBelEntryTake.take.Goals as goal

pub returns-in_err-bels-clause-made : goal.returns-in_err-bels-clause-made
unfolding finish_at finish_row said row_at kind_word field_word
returns-in_err-bels-clause-made c =
    let p = err_from_is_err_and c.from_residual-in_err-bels.result c.from_residual-in_err-bels.ensures.1 in
    rw (p.1, p.2, c.begin.ensures, c.in_ok-site_type.ensures.made) (stops_first c.in_err-bels.field-0.0 _ _ (stops_first c.in_err-bels.field-0.0 _ _ c.in_err-bels.ensures.made))

pub returns-clause-made : goal.returns-clause-made
unfolding finish_at finish_row said row_at kind_word field_word
returns-clause-made c = rw (c.begin.ensures, c.in_ok-site_type.ensures.made, c.in_ok-bels.ensures.made) refl
