use Rattle.std.proofs.Common.{[], ◌++◌}
use Rattle.std.specs.List.{flat_map}
use Rattle.ix_frame.specs.Sound.{sound_elements}
use Rattle.ix_frame.specs.Views.{object_of}
use Rattle.ix_message.specs.Device.{lut_cell, site_type_lut_elements}
use Rattle.ix_schema.specs.Said.{said, each_said}
use Rattle.ix_device_read.specs.Loose.{loose_texts}
use Rattle.ix_device_read.proofs.Adding.{adds_on, adds_last}
use Rattle.ix_device_read.proofs.lut_texts.LutDefinitionsHasTexts.add_texts.Goals as goal

pub returns : goal.returns
unfolding said loose_texts
returns c =
    let o = object_of c.args.o in
    let cells = flat_map (loose_texts lut_cell) (each_said (said lut_cell) (sound_elements o 0).count (sound_elements o 0) 0) in
    let elements = flat_map (loose_texts site_type_lut_elements) (each_said (said site_type_lut_elements) (sound_elements o 1).count (sound_elements o 1) 0) in
    adds_on c.add_structs_behind-2.result cells (elements ++ []) c.args.names.now c.add_structs_behind.new.names c.add_structs_behind-2.new.names c.in_ok-add_structs_behind.ensures
    (adds_last c.add_structs_behind-2.result elements c.add_structs_behind.new.names c.add_structs_behind-2.new.names c.add_structs_behind-2.ensures)
