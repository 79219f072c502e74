use Rattle.std.proofs.Common.{◌∙◌, [], Ok, map, length, replicate, ap}
use Rattle.ix_frame.specs.Views.{object_of}
use Rattle.ix_message.specs.Indexes.{only_table, steps}
use Rattle.ix_message.specs.Phys.{phys_netlist}
use Rattle.ix_message_write.specs.Table.{name_text}
use Rattle.ix_schema.specs.Said.{said}
use Rattle.ix_take.specs.Walked.{walked}
use Rattle.ix_phys_read.specs.Walked.{counted_structs}
use Rattle.ix_phys_read.proofs.Told.{finds_bad, no_bad, bad_told}
use Rattle.ix_phys_read.proofs.read.take_named.Goals as goal

pub returns-in-Ok-clause-reading : goal.returns-in-Ok-clause-reading
returns-in-Ok-clause-reading c =
    let table = map (name_text c.args.names.now) c.args.strings.now in
    let o = object_of c.args.root in
    let v = said phys_netlist o in
    let made = rw c.new-walk.ensures at c.in-Ok.ensures.made in
    no_bad table v c.take_netlist.new.walk
    (walked counted_structs (replicate 32 0)
    (steps phys_netlist (only_table (length table)) [] v))
    (finds_bad c.walk_finds_first.ensures o c.requires.passed table) made.1 ∙ ap Ok made.0

pub returns-in-Err-OutOfList-clause-reading : goal.returns-in-Err-OutOfList-clause-reading
returns-in-Err-OutOfList-clause-reading c =
    let table = map (name_text c.args.names.now) c.args.strings.now in
    let o = object_of c.args.root in
    let v = said phys_netlist o in
    bad_told c.out_of_list.result c.in-Err-OutOfList.kind c.in-Err-OutOfList.field
    c.in-Err-OutOfList.index table v (walked counted_structs (replicate 32 0)
    (steps phys_netlist (only_table (length table)) [] v)) c.out_of_list.ensures
    (finds_bad c.walk_finds_first.ensures o c.requires.passed table)
    (rw (c.in-Err-OutOfList.field-0-is, c.new-walk.ensures) at c.in-Err-OutOfList.ensures.made)
