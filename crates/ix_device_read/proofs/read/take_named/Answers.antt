use Rattle.std.proofs.Common.{◌∙◌, length, map, sym}
use Rattle.ix_frame.specs.Views.{object_of}
use Rattle.ix_message.specs.Device.{device}
use Rattle.ix_message.specs.Indexes.{first_bad}
use Rattle.ix_message.specs.Names.{record_of}
use Rattle.ix_schema.specs.Said.{said}
use Rattle.ix_device_read.specs.Numbers.{name_text}
use Rattle.ix_device_read.specs.Records.{device_record}
use Rattle.ix_device_read.proofs.ByTable.{device_finished_is_reading}
use Rattle.ix_device_read.proofs.Whole.{done_is, never_unnamed, bad_field}
use Rattle.ix_device_read.proofs.read.take_named.Goals as goal

pub unreachable-requires : goal.unreachable-requires
unreachable-requires c =
    let names = c.args.names.now in
    let table = map (name_text names) c.args.strings.now in
    let v = said device (object_of c.args.root) in
    never_unnamed (first_bad device (length table) v) (record_of table device v) (sym (device_finished_is_reading names table v c.requires.known c.requires.few) ∙ (rw c.in-Err-Unnamed.field-0-is at c.in-Err-Unnamed.ensures.made))

pub returns-in-Ok-clause-reading : goal.returns-in-Ok-clause-reading
returns-in-Ok-clause-reading c =
    let names = c.args.names.now in
    let table = map (name_text names) c.args.strings.now in
    let v = said device (object_of c.args.root) in
    done_is (device_record names) (first_bad device (length table) v) (record_of table device v) c.in-Ok.device (sym (device_finished_is_reading names table v c.requires.known c.requires.few) ∙ c.in-Ok.ensures.made)

pub returns-in-Err-OutOfList-clause-reading : goal.returns-in-Err-OutOfList-clause-reading
returns-in-Err-OutOfList-clause-reading c =
    let names = c.args.names.now in
    let table = map (name_text names) c.args.strings.now in
    let v = said device (object_of c.args.root) in
    bad_field c.out_of_list.result c.in-Err-OutOfList.kind c.in-Err-OutOfList.field c.in-Err-OutOfList.index (first_bad device (length table) v) (record_of table device v) c.out_of_list.ensures (rw (c.in-Err-OutOfList.field-0-is, device_finished_is_reading names table v c.requires.known c.requires.few) at c.in-Err-OutOfList.ensures.made)
