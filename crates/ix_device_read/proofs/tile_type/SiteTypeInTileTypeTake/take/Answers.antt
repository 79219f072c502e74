use Rattle.std.proofs.Common.{refl}
use Rattle.std.proofs.lemmas.Result.{err_from_is_err_and}
use Rattle.ix_message.specs.Reading.{row_at}
use Rattle.ix_schema.specs.Said.{said}
use Rattle.ix_device_read.specs.Finish.{finish_at, finish_row}
use Rattle.ix_device_read.specs.Views.{kind_word, field_word}
use Rattle.ix_device_read.proofs.Each.{stops_first}
use Rattle.ix_device_read.proofs.tile_type.SiteTypeInTileTypeTake.take.Goals as goal

pub returns-in_err-primary_pins_to_tile_wires-clause-made : goal.returns-in_err-primary_pins_to_tile_wires-clause-made
unfolding finish_at finish_row said row_at kind_word field_word
returns-in_err-primary_pins_to_tile_wires-clause-made c =
    let p = err_from_is_err_and c.from_residual-in_err-primary_pins_to_tile_wires.result c.from_residual-in_err-primary_pins_to_tile_wires.ensures.1 in
    rw (p.1, p.2, c.begin.ensures, c.in_ok-primary_type.ensures.exact) (stops_first c.in_err-primary_pins_to_tile_wires.field-0.0 _ _ (stops_first c.in_err-primary_pins_to_tile_wires.field-0.0 _ _ c.in_err-primary_pins_to_tile_wires.ensures.made))

pub returns-clause-made : goal.returns-clause-made
unfolding finish_at finish_row said row_at kind_word field_word
returns-clause-made c = rw (c.new.ensures, c.begin.ensures, c.in_ok-primary_type.ensures.exact, c.in_ok-primary_pins_to_tile_wires.ensures.made) refl
