-- What the root of a device says, by its pointers.
use Rattle.std.proofs.Common.{◌≡◌, [], ◌∷◌, ◌∙◌, map, length, refl, ap}
use Rattle.std.specs.Prelude.{Some, None, if◌then◌else◌}
use Rattle.ix_frame.specs.Objects.{has_pointer}
use Rattle.ix_frame.specs.Sound.{sound_elements, sound_struct, sound_text}
use Rattle.ix_frame.specs.Target.{Object}
use Rattle.ix_message.specs.Device.{device, site_type, tile_type, tile, wire, node, cell_bel_mapping, package_of_pins, constant_cells, lut_definitions}
use Rattle.ix_message.specs.Reading.{row_at}
use Rattle.ix_message.specs.Shape.{Text, Struct, Value}
use Rattle.ix_device_read.specs.Sizes.{site_type_count, device_sizes}
use Rattle.ix_device_read.specs.Loose.{loose_texts}
use Rattle.ix_device_read.proofs.Bare.{device_texts}
use Rattle.ix_device_read.proofs.Said.{said_length}
use Rattle.std.specs.Prelude.{List, ℕ}
use Rattle.ix_schema.specs.Said.{said, each_said}

abbrev pub list_said : (s : Struct) → Object → ℕ → List (Value ℕ s)
list_said s o slot = each_said (said s) (sound_elements o slot).count (sound_elements o slot) 0

pub root_said : (o : Object) → said device o ≡ ([], (sound_text o 0, (list_said site_type o 2, (list_said tile_type o 3, (list_said tile o 4, (list_said wire o 5, (list_said node o 6, (list_said cell_bel_mapping o 9, (list_said package_of_pins o 10, (if has_pointer o 11 then Some (said constant_cells (sound_struct o 11)) else None, (said lut_definitions (sound_struct o 12), tt)))))))))))
unfolding said row_at
root_said o = refl

-- the lists of a device that indexes lead into
pub sizes_said : (table names : List Text) (o : Object) (tts : List ℕ) (sts ws : ℕ) → tts ≡ map site_type_count (list_said tile_type o 3) → sts ≡ (sound_elements o 2).count → ws ≡ (sound_elements o 5).count
    → record { table = table; names = names; site_types = sts; tile_types = tts; wires = ws; bel_pins = 0; tile_wires = 0; tile_type = 0 } ≡ device_sizes table names (said device o)
sizes_said table names o tts sts ws a b c =
    let two : length (list_said site_type o 2) ≡ (sound_elements o 2).count = said_length (said site_type) (sound_elements o 2).count (sound_elements o 2) 0 in
    let five : length (list_said wire o 5) ≡ (sound_elements o 5).count = said_length (said wire) (sound_elements o 5).count (sound_elements o 5) 0 in
    rw (root_said o, a, b, c, two, five) refl

-- the texts of a device behind pointers are its name and those of its LUT cells and elements
pub texts_of_root : (o : Object) → loose_texts device (said device o) ≡ sound_text o 0 ∷ loose_texts lut_definitions (said lut_definitions (sound_struct o 12))
texts_of_root o = ap (loose_texts device) (root_said o) ∙ device_texts _ _ _ _ _ _ _ _ _ _ _
