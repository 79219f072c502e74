use Rattle.std.proofs.Common.{◌≡◌, ◌∙◌, length, refl, ap}
use Rattle.std.proofs.lemmas.Result.{err_from_is_err_and}
use Rattle.ix_frame.specs.Objects.{numbers_in}
use Rattle.ix_frame.specs.Sound.{sound_list}
use Rattle.ix_frame.specs.Views.{object_of, numbers_of}
use Rattle.ix_message.specs.Names.{record_of}
use Rattle.ix_message.specs.Reading.{row_at}
use Rattle.ix_schema.specs.Said.{said}
use Rattle.ix_take.specs.Views.{kind_word, field_word}
use Rattle.ix_logic_read.specs.Asking.{lists_in}
use Rattle.ix_logic_read.specs.Structs.{netlist_structs}
use Rattle.ix_logic_read.proofs.Rows.{decl_walk}
use Rattle.ix_logic_read.proofs.Walking.{each_fits, each_stops}
use Rattle.ix_logic_read.proofs.instance.CellDeclarationTakeNetlistContext.take.Goals as goal

pub returns-in_err-ports-clause-made : goal.returns-in_err-ports-clause-made
unfolding kind_word field_word lists_in
returns-in_err-ports-clause-made c =
    let l = lists_in c.args.ctx.now in
    let o = object_of c.args.o in
    let p = err_from_is_err_and c.from_residual-in_err-ports.result
    c.from_residual-in_err-ports.ensures.1 in
    let ns : numbers_of c.sound_numbers.result ≡ numbers_in (sound_list 4 o 0) =
    ap numbers_in c.sound_numbers.ensures in
    let walk = decl_walk l o c.args.walk.now c.begin.new.self c.begin.ensures
    c.in_ok-name.ensures.made.0 in
    rw (p.1, p.2, walk) (each_stops netlist_structs c.begin.new.self "CellDeclaration" "ports" 2 1
    (length l.port_list) (numbers_in (sound_list 4 o 0)) c.in_err-ports.field-0.0
    (rw (ns, c.port_count.ensures) at c.in_err-ports.ensures.made) refl refl refl)

pub returns-clause-made : goal.returns-clause-made
unfolding record_of said row_at lists_in
returns-clause-made c =
    let l = lists_in c.args.ctx.now in
    let o = object_of c.args.o in
    let ns : numbers_of c.sound_numbers.result ≡ numbers_in (sound_list 4 o 0) =
    ap numbers_in c.sound_numbers.ensures in
    let walk = decl_walk l o c.args.walk.now c.begin.new.self c.begin.ensures
    c.in_ok-name.ensures.made.0 in
    let made = rw (ns, c.port_count.ensures) at c.in_ok-ports.ensures.made in (
      rw (c.in_ok-name.ensures.made.1, made.0) refl,
      walk ∙ each_fits netlist_structs c.begin.new.self "CellDeclaration" "ports"
          (length l.port_list) (numbers_in (sound_list 4 o 0)) made.1,
    )
