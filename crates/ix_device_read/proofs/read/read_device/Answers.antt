use Rattle.std.proofs.Common.{◌≡◌, ◌∙◌, ◌+◌, ◌^◌, ℕ, List, length, map, ap, sym, subst, arith}
use Rattle.std.specs.Prelude.{IfOk}
use Rattle.ix_frame.specs.Views.{object_of, segments_of}
use Rattle.ix_message.specs.Shape.{Text}
use Rattle.ix_message.specs.Device.{device}
use Rattle.ix_schema.specs.Said.{said, table_said}
use Rattle.ix_message.specs.Names.{Datum, record_of}
use Rattle.ix_message.specs.Indexes.{first_bad}
use Rattle.ix_device_read.specs.Adding.{AddsExactly}
use Rattle.ix_device_read.specs.Long.{ListsWithin}
use Rattle.ix_device_read.specs.Named.{limit, DeviceNamed}
use Rattle.ix_device_read.specs.Numbers.{name_text}
use Rattle.ix_device_read.specs.Reading.{reading_in_segments, record_unless_bad, IsReading}
use Rattle.ix_device_read.specs.Records.{device_record}
use Rattle.ix_message.specs.Message.{numbers_in_segments}
use Rattle.ix_rec.specs.declared.device.DeviceRec.{DeviceRec}
use Rattle.ix_device_read.proofs.Adding.{none_added, all_texts_added}
use Rattle.ix_device_read.proofs.Whole.{read_has, frame_budget, device_room, device_few, device_most, behind_known, texts_again, of_numbers}
use Rattle.ix_device_read.proofs.Longest.{device_lists}
use Rattle.ix_device_read.proofs.Naming.{limit_is}
use Rattle.ix_device_read.proofs.read.read_device.Goals as goal

pub add_names-requires : goal.add_names-requires
add_names-requires c =
    device_room c.args.frame.now (table_said device (object_of c.in-Ok.root)) (said device (object_of c.in-Ok.root)) c.args.names.now c.in-Ok.ensures c.requires

pub returns-in-Err-add_names-clause-most : goal.returns-in-Err-add_names-clause-most
returns-in-Err-add_names-clause-most c =
    device_most c.args.frame.now (table_said device (object_of c.in-Ok.root)) (said device (object_of c.in-Ok.root)) c.args.names.now c.add_names.new.names c.in-Ok.ensures c.in-Err-add_names.ensures.adds

pub take_named-requires-clause-known : goal.take_named-requires-clause-known
take_named-requires-clause-known c =
    behind_known c.add_names.new.names (table_said device (object_of c.in-Ok.root)) (said device (object_of c.in-Ok.root)) c.in-Ok-add_names.ensures.adds.known

pub take_named-requires-clause-few : goal.take_named-requires-clause-few
take_named-requires-clause-few c =
    device_few c.args.frame.now (table_said device (object_of c.in-Ok.root)) (said device (object_of c.in-Ok.root)) c.in-Ok.ensures

pub returns-clause-reading : goal.returns-clause-reading
returns-clause-reading c =
    let names = c.add_names.new.names in
    let table = table_said device (object_of c.in-Ok.root) in
    let v = said device (object_of c.in-Ok.root) in
    let again : map (name_text names) c.as_slice.result.now ≡ table = ap (map (name_text names)) c.as_slice.ensures ∙ texts_again names c.in-Ok-add_names.strings table c.in-Ok-add_names.ensures.numbers in
    let whole : reading_in_segments device (segments_of c.args.frame.now) ≡ record_unless_bad (map (name_text names) c.as_slice.result.now) device v =
    of_numbers device (segments_of c.args.frame.now) table v c.in-Ok.ensures ∙ ap (λ (ts : List Text). record_unless_bad ts device v) (sym again) in
    subst (IsReading (device_record names) c.take_named.result) (sym whole) c.take_named.ensures.reading

pub returns-clause-most : goal.returns-clause-most
returns-clause-most c =
    device_most c.args.frame.now (table_said device (object_of c.in-Ok.root)) (said device (object_of c.in-Ok.root)) c.args.names.now c.add_names.new.names c.in-Ok.ensures c.in-Ok-add_names.ensures.adds.grows

pub returns-clause-named : goal.returns-clause-named
returns-clause-named c =
    let names = c.add_names.new.names in
    let same : limit c.as_slice.result.now names ≡ length names = ap (λ (ids : List ℕ). limit ids names) c.as_slice.ensures ∙ limit_is names c.in-Ok-add_names.strings (table_said device (object_of c.in-Ok.root)) c.in-Ok-add_names.ensures.numbers in
    subst (λ (n : ℕ). IfOk c.take_named.result (DeviceNamed n)) same c.take_named.ensures.named

pub returns-clause-lists : goal.returns-clause-lists
returns-clause-lists c =
    let names = c.add_names.new.names in
    let table = table_said device (object_of c.in-Ok.root) in
    let v = said device (object_of c.in-Ok.root) in
    let again : map (name_text names) c.as_slice.result.now ≡ table = ap (map (name_text names)) c.as_slice.ensures ∙ texts_again names c.in-Ok-add_names.strings table c.in-Ok-add_names.ensures.numbers in
    let short = device_lists c.args.frame.now (2 ^ 28 + 64) table v (omega arith) (frame_budget c.args.frame.now) c.in-Ok.ensures in
    read_has (device_record names) (ListsWithin (2 ^ 28 + 64) Datum device) c.take_named.result (first_bad device (length table) v) (record_of table device v) (subst (λ (ts : List Text). IsReading (device_record names) c.take_named.result (record_unless_bad ts device v)) again c.take_named.ensures.reading) short

pub returns-in-Err-clause-adds : goal.returns-in-Err-clause-adds
returns-in-Err-clause-adds c = none_added DeviceRec device c.in-Err.fault (numbers_in_segments device (segments_of c.args.frame.now)) c.args.names.now c.in-Err.ensures

pub returns-clause-adds : goal.returns-clause-adds
returns-clause-adds c =
    all_texts_added c.take_named.result device (table_said device (object_of c.in-Ok.root)) (said device (object_of c.in-Ok.root)) (numbers_in_segments device (segments_of c.args.frame.now)) c.args.names.now c.add_names.new.names c.in-Ok.ensures c.in-Ok-add_names.ensures.adds

pub returns-in-Err-add_names-clause-adds : goal.returns-in-Err-add_names-clause-adds
unfolding AddsExactly
returns-in-Err-add_names-clause-adds c = tt
