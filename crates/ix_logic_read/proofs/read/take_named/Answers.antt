use Rattle.std.proofs.Common.{◌∙◌, [], Ok, map, length, replicate, ap}
use Rattle.ix_frame.specs.Views.{object_of}
use Rattle.ix_message.specs.Indexes.{only_table, steps}
use Rattle.ix_message.specs.Netlist.{netlist}
use Rattle.ix_message_write.specs.Table.{name_text}
use Rattle.ix_schema.specs.Said.{said}
use Rattle.ix_take.specs.Walked.{walked}
use Rattle.ix_logic_read.specs.Structs.{netlist_structs}
use Rattle.ix_logic_read.proofs.Telling.{finds_bad, no_bad, bad_told}
use Rattle.ix_logic_read.proofs.read.take_named.Goals as goal

pub returns-in-Ok-take_netlist-clause-reading : goal.returns-in-Ok-take_netlist-clause-reading
returns-in-Ok-take_netlist-clause-reading c =
    let table = map (name_text c.args.names.now) c.args.strings.now in
    let o = object_of c.args.root in
    let v = said netlist o in
    let made = rw c.new-walk.ensures at c.in-Ok-take_netlist.ensures.made in
    no_bad table v c.take_netlist.new.walk
    (walked netlist_structs (replicate 32 0) (steps netlist (only_table (length table)) [] v))
    (finds_bad c.walk_finds_first.ensures o c.requires.passed table) made.1 ∙ ap Ok made.0

pub returns-in-Err-OutOfList-clause-reading : goal.returns-in-Err-OutOfList-clause-reading
returns-in-Err-OutOfList-clause-reading c =
    let table = map (name_text c.args.names.now) c.args.strings.now in
    let o = object_of c.args.root in
    let v = said netlist o in
    bad_told c.out_of_list.result c.in-Err-OutOfList.kind c.in-Err-OutOfList.field
    c.in-Err-OutOfList.index table v (walked netlist_structs (replicate 32 0)
    (steps netlist (only_table (length table)) [] v)) c.out_of_list.ensures
    (finds_bad c.walk_finds_first.ensures o c.requires.passed table)
    (rw (c.in-Err-OutOfList.field-0-is, c.new-walk.ensures) at c.in-Err-OutOfList.ensures.made)
