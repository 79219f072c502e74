use Rattle.std.proofs.Common.{◌≡◌, ◌∙◌, ◌<◌, List, ℕ, [], ◌∷◌, Ok, length, map, refl, ap, sym, subst}
use Rattle.std.specs.List.{flat_map, All}
use Rattle.std.proofs.lemmas.Result.{err_from_is_err_and}
use Rattle.ix_frame.specs.Objects.{numbers_in}
use Rattle.ix_frame.specs.Sound.{sound_list, sound_elements}
use Rattle.ix_frame.specs.Target.{Elements}
use Rattle.ix_frame.specs.Views.{object_of, numbers_of}
use Rattle.ix_message.specs.Indexes.{Entry, has_number, steps}
use Rattle.ix_message.specs.Names.{record_of}
use Rattle.ix_message.specs.Netlist.{net}
use Rattle.ix_message.specs.Reading.{row_at}
use Rattle.ix_schema.specs.Said.{said}
use Rattle.ix_take.specs.Going.{stops_first, walked_then}
use Rattle.ix_take.specs.Views.{Stops, kind_word, field_word, table_of}
use Rattle.ix_take.specs.Walked.{walked}
use Rattle.ix_logic_read.specs.Asking.{lists_in}
use Rattle.ix_logic_read.specs.Record.{net_record}
use Rattle.ix_logic_read.specs.Structs.{netlist_structs}
use Rattle.ix_logic_read.proofs.Rows.{cell_walk, list_said, nets_in_cell, seen}
use Rattle.ix_logic_read.proofs.Steps.{SameCell, number_in}
use Rattle.ix_logic_read.proofs.Walking.{ask_each, each_fits, each_stops}
use Rattle.ix_logic_read.proofs.cell.CellTakeNetlistContext.take.Goals as goal

pub returns-in_err-insts-clause-made : goal.returns-in_err-insts-clause-made
unfolding kind_word field_word lists_in
returns-in_err-insts-clause-made c =
    let l = lists_in c.args.ctx.now in
    let o = object_of c.args.o in
    let p = err_from_is_err_and c.from_residual-in_err-insts.result
    c.from_residual-in_err-insts.ensures.1 in
    let ns : numbers_of c.sound_numbers-listed.result ≡ numbers_in (sound_list 4 o 0) =
    ap numbers_in c.sound_numbers-listed.ensures in
    let fit = rw c.decl_count.ensures at c.in_ok-index.ensures.made.0 in
    let walk = cell_walk l o c.args.walk.now c.begin.new.self c.begin.ensures fit in
    let here = each_stops netlist_structs c.begin.new.self "Cell" "insts" 5 1
    (length l.instance_list) (numbers_in (sound_list 4 o 0)) c.in_err-insts.field-0.0
    (rw (ns, c.inst_count.ensures) at c.in_err-insts.ensures.made) refl refl refl in
    rw (p.1, p.2, walk) (stops_first netlist_structs c.in_err-insts.field-0.0 c.begin.new.self
    (ask_each "Cell" "insts" (length l.instance_list) (numbers_in (sound_list 4 o 0)))
    (flat_map (steps net l (seen o ∷ [])) (list_said net (sound_elements o 1))) here)

pub returns-in_err-nets-clause-made : goal.returns-in_err-nets-clause-made
unfolding said row_at
returns-in_err-nets-clause-made c =
    let l = lists_in c.args.ctx.now in
    let o = object_of c.args.o in
    let mid = c.begin.new.self in
    let p = err_from_is_err_and c.from_residual-in_err-nets.result
    c.from_residual-in_err-nets.ensures.1 in
    let ns : numbers_of c.sound_numbers-listed.result ≡ numbers_in (sound_list 4 o 0) =
    ap numbers_in c.sound_numbers-listed.ensures in
    let fit = rw c.decl_count.ensures at c.in_ok-index.ensures.made.0 in
    let walk = cell_walk l o c.args.walk.now mid c.begin.ensures fit in
    let made = rw (ns, c.inst_count.ensures) at c.in_ok-insts.ensures.made in
    let asks = ask_each "Cell" "insts" (length l.instance_list) (numbers_in (sound_list 4 o 0)) in
    let here : Entry = record {
      row = c.in_ok-index.index ∷ [];
      lists =
          c.in_ok-sorted.field-0 ∷ [];
      lengths = [];
    } in
    let same : SameCell (seen o) here = (
      ap number_in c.in_ok-index.ensures.made.1,
      λ n. sym (c.in_ok-sorted.ensures n ∙ ap (λ (xs : List ℕ). has_number xs n) ns),
    ) in
    let nets = list_said net (sound_elements o 1) in
    let on = walked_then netlist_structs mid mid asks (flat_map (steps net l (seen o ∷ [])) nets)
    (each_fits netlist_structs mid "Cell" "insts" (length l.instance_list)
    (numbers_in (sound_list 4 o 0)) made.1) in
    let stops = subst (λ (e : Elements). Stops netlist_structs c.in_err-nets.field-0.0
    (walked netlist_structs mid (flat_map (steps net l (here ∷ [])) (list_said net e))))
    c.sound_list.ensures c.in_err-nets.ensures.made in
    rw (p.1, p.2, walk, on, nets_in_cell l (seen o) here nets same) stops

pub returns-clause-made : goal.returns-clause-made
unfolding said row_at record_of
returns-clause-made c =
    let l = lists_in c.args.ctx.now in
    let o = object_of c.args.o in
    let mid = c.begin.new.self in
    let ns : numbers_of c.sound_numbers-listed.result ≡ numbers_in (sound_list 4 o 0) =
    ap numbers_in c.sound_numbers-listed.ensures in
    let fit = rw c.decl_count.ensures at c.in_ok-index.ensures.made.0 in
    let walk = cell_walk l o c.args.walk.now mid c.begin.ensures fit in
    let made = rw (ns, c.inst_count.ensures) at c.in_ok-insts.ensures.made in
    let asks = ask_each "Cell" "insts" (length l.instance_list) (numbers_in (sound_list 4 o 0)) in
    let here : Entry = record {
      row = c.in_ok-index.index ∷ [];
      lists =
          c.in_ok-sorted.field-0 ∷ [];
      lengths = [];
    } in
    let same : SameCell (seen o) here = (
      ap number_in c.in_ok-index.ensures.made.1,
      λ n. sym (c.in_ok-sorted.ensures n ∙ ap (λ (xs : List ℕ). has_number xs n) ns),
    ) in
    let nets = list_said net (sound_elements o 1) in
    let on = walked_then netlist_structs mid mid asks (flat_map (steps net l (seen o ∷ [])) nets)
    (each_fits netlist_structs mid "Cell" "insts" (length l.instance_list)
    (numbers_in (sound_list 4 o 0)) made.1) in
    let names = c.args.ctx.now.texts.names.now in
    let table = table_of c.args.ctx.now.texts in
    let taken = subst (λ (e : Elements). (map (record_of table net) (list_said net e) ≡ map
    (net_record names) c.in_ok-nets.nets)
    × (walked netlist_structs mid (flat_map (steps net l (here ∷ [])) (list_said net e)) ≡ Ok
    c.take_list.new.walk)) c.sound_list.ensures c.in_ok-nets.ensures.made in (
      rw (c.in_ok-index.ensures.made.1, made.0, taken.0) refl,
      walk ∙ on ∙ ap (walked netlist_structs mid) (nets_in_cell l (seen o) here nets same)
          ∙ taken.1,
    )

pub returns-clause-named : goal.returns-clause-named
returns-clause-named c =
    let nets = c.in_ok-nets.ensures.named in (
      record {
        index = subst (λ (n : ℕ). c.in_ok-index.index < n) c.decl_count.ensures
            c.in_ok-index.ensures.below;
        insts = subst (λ (n : ℕ). All (λ i. i < n) c.in_ok-insts.insts) c.inst_count.ensures
            c.in_ok-insts.ensures.below;
        nets = λ k d lt. (nets k d lt).0;
      },
      λ k d lt. (nets k d lt).1,
    )
