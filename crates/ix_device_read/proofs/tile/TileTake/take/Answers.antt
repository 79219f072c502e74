use Rattle.std.proofs.Common.{refl}
use Rattle.std.proofs.lemmas.Result.{err_from_is_err_and}
use Rattle.ix_message.specs.Reading.{row_at}
use Rattle.ix_schema.specs.Said.{said}
use Rattle.ix_device_read.specs.Finish.{finish_at, finish_row}
use Rattle.ix_device_read.specs.Views.{kind_word, field_word}
use Rattle.ix_device_read.proofs.Each.{stops_first}
use Rattle.ix_device_read.proofs.tile.TileTake.take.Goals as goal

pub returns-in_err-sites-clause-made : goal.returns-in_err-sites-clause-made
unfolding finish_at finish_row said row_at kind_word field_word
returns-in_err-sites-clause-made c =
    let p = err_from_is_err_and c.from_residual-in_err-sites.result c.from_residual-in_err-sites.ensures.1 in
    rw (p.1, p.2, c.begin.ensures, ← c.tile_type_count.ensures, c.in_ok-name.ensures.made, c.in_ok-ty.ensures.exact, c.in_ok-ty.ensures.same) (stops_first c.in_err-sites.field-0.0 _ _ (stops_first c.in_err-sites.field-0.0 _ _ c.in_err-sites.ensures.made))

pub returns-clause-made : goal.returns-clause-made
unfolding finish_at finish_row said row_at kind_word field_word
returns-clause-made c = rw (c.begin.ensures, ← c.tile_type_count.ensures, c.in_ok-name.ensures.made, c.in_ok-ty.ensures.exact, c.in_ok-ty.ensures.same, c.number.ensures, c.number-2.ensures, c.in_ok-sites.ensures.made) refl
