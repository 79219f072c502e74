use Rattle.std.proofs.Common.{◌∷◌, [], ◌++◌}
use Rattle.std.specs.List.{flat_map}
use Rattle.ix_frame.specs.Sound.{sound_elements, sound_text}
use Rattle.ix_frame.specs.Views.{object_of}
use Rattle.ix_message.specs.Device.{lut_element}
use Rattle.ix_schema.specs.Said.{said, each_said}
use Rattle.ix_device_read.specs.Loose.{loose_texts}
use Rattle.ix_device_read.proofs.Adding.{adds_on, adds_last}
use Rattle.ix_device_read.proofs.lut_texts.SiteTypeLutElementsHasTexts.add_texts.Goals as goal

pub returns : goal.returns
unfolding said loose_texts
returns c =
    let o = object_of c.args.o in
    let luts = flat_map (loose_texts lut_element) (each_said (said lut_element) (sound_elements o 1).count (sound_elements o 1) 0) in
    adds_on c.add_structs_behind.result (sound_text o 0 ∷ []) (luts ++ []) c.args.names.now c.add_text_behind.new.names c.add_structs_behind.new.names c.in_ok-add_text_behind.ensures
    (adds_last c.add_structs_behind.result luts c.add_text_behind.new.names c.add_structs_behind.new.names c.add_structs_behind.ensures)
