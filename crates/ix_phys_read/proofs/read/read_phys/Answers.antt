use Rattle.std.proofs.Common.{◌≡◌, ◌∙◌, ◌++◌, List, map, sym, ap, subst}
use Rattle.ix_device_read.specs.Adding.{AddsExactly}
use Rattle.ix_device_read.specs.Loose.{with_names, loose_texts}
use Rattle.ix_device_read.specs.Reading.{reading_in_segments, record_unless_bad, IsReading}
use Rattle.ix_frame.specs.Views.{object_of, segments_of}
use Rattle.ix_message.specs.Message.{numbers_in_segments}
use Rattle.ix_message.specs.Phys.{phys_netlist}
use Rattle.ix_message.specs.Shape.{Text}
use Rattle.ix_message_write.specs.Table.{name_text}
use Rattle.ix_phys_write.specs.Record.{phys_record}
use Rattle.ix_schema.specs.Said.{said, table_said}
use Rattle.ix_phys_read.proofs.Texts.{texts_again, are_names, loose_part, none_added, all_added}
use Rattle.ix_phys_read.proofs.Told.{of_numbers}
use Rattle.ix_phys_read.proofs.read.read_phys.Goals as goal

pub returns-in-Err-clause-adds : goal.returns-in-Err-clause-adds
returns-in-Err-clause-adds c = none_added c.in-Err.fault
    (numbers_in_segments phys_netlist (segments_of c.args.frame.now)) c.args.names.now
    c.in-Err.ensures.message

pub returns-in-Err-add_names-clause-adds : goal.returns-in-Err-add_names-clause-adds
unfolding AddsExactly
returns-in-Err-add_names-clause-adds c = tt

pub take_named-requires-clause-named : goal.take_named-requires-clause-named
take_named-requires-clause-named c =
    rw c.as_slice.ensures (are_names c.add_names.new.names c.in-Ok-add_names.named.strings
    (table_said phys_netlist (object_of c.in-Ok.root)) c.in-Ok-add_names.ensures.strings)

pub returns-clause-reading : goal.returns-clause-reading
returns-clause-reading c =
    let names = c.add_names.new.names in
    let table = table_said phys_netlist (object_of c.in-Ok.root) in
    let v = said phys_netlist (object_of c.in-Ok.root) in
    let again : map (name_text names) c.as_slice.result.now ≡ table =
    ap (map (name_text names)) c.as_slice.ensures
    ∙ texts_again names c.in-Ok-add_names.named.strings table c.in-Ok-add_names.ensures.strings
    in
    let whole : reading_in_segments phys_netlist (segments_of c.args.frame.now) ≡ record_unless_bad
    (map (name_text names) c.as_slice.result.now) phys_netlist v =
    of_numbers (segments_of c.args.frame.now) table v c.in-Ok.ensures.message
    ∙ ap (λ (ts : List Text). record_unless_bad ts phys_netlist v) (sym again) in
    subst (IsReading (phys_record names) c.take_named.result)
    (sym whole) c.take_named.ensures.reading

pub returns-clause-adds : goal.returns-clause-adds
returns-clause-adds c =
    let o = object_of c.in-Ok.root in
    let table : List Text = table_said phys_netlist o in
    let added : c.add_names.new.names ≡ with_names c.args.names.now
    (table ++ loose_texts phys_netlist (said phys_netlist o)) =
    rw (loose_part o) c.in-Ok-add_names.ensures.adds in
    all_added c.take_named.result table (said phys_netlist o)
    (numbers_in_segments phys_netlist (segments_of c.args.frame.now)) c.args.names.now
    c.add_names.new.names c.in-Ok.ensures.message added
