use Rattle.std.proofs.Common.{◌∷◌, [], ◌++◌, List, subst, sym}
use Rattle.ix_frame.specs.Sound.{sound_struct, sound_text}
use Rattle.ix_frame.specs.Views.{object_of}
use Rattle.ix_message.specs.Shape.{Text}
use Rattle.ix_message.specs.Device.{device, lut_definitions}
use Rattle.ix_schema.specs.Said.{said, table_said}
use Rattle.ix_device_read.specs.Loose.{loose_texts, HasRoom, Grows, Knows}
use Rattle.ix_device_read.proofs.Adding.{room_first, room_rest, adds_some, grows_on, grows_front, knows_on, numbers_keep}
use Rattle.ix_device_read.proofs.Rooted.{texts_of_root}
use Rattle.ix_device_read.proofs.read.add_names.Goals as goal

pub add_table_behind-requires : goal.add_table_behind-requires
add_table_behind-requires c =
    let o = object_of c.args.root in
    room_first (table_said device o) (loose_texts device (said device o)) c.args.names.now c.requires

pub add_text_behind-requires : goal.add_text_behind-requires
add_text_behind-requires c =
    let o = object_of c.args.root in
    let strings : List Text = table_said device o in
    let name : List Text = sound_text o 0 ∷ [] in
    let luts : List Text = loose_texts lut_definitions (said lut_definitions (sound_struct o 12)) in
    let here : Knows strings c.args.names.now c.add_table_behind.new.names = c.in_ok-strings.ensures.adds in
    room_first name luts c.add_table_behind.new.names (room_rest strings (name ++ luts) c.args.names.now c.add_table_behind.new.names (subst (λ (us : List Text). HasRoom (strings ++ us) c.args.names.now) (texts_of_root o) c.requires) here.grows)

pub returns-in_err-add_text_behind-clause-adds : goal.returns-in_err-add_text_behind-clause-adds
returns-in_err-add_text_behind-clause-adds c =
    let o = object_of c.args.root in
    let strings : List Text = table_said device o in
    let name : List Text = sound_text o 0 ∷ [] in
    let luts : List Text = loose_texts lut_definitions (said lut_definitions (sound_struct o 12)) in
    let here : Knows strings c.args.names.now c.add_table_behind.new.names = c.in_ok-strings.ensures.adds in
    let more : Grows name c.add_table_behind.new.names c.add_text_behind.new.names = c.in_err-add_text_behind.ensures in
    let some : Grows (strings ++ loose_texts device (said device o)) c.args.names.now c.add_text_behind.new.names =
    subst (λ (us : List Text). Grows (strings ++ us) c.args.names.now c.add_text_behind.new.names) (sym (texts_of_root o))
    (grows_on strings (name ++ luts) c.args.names.now c.add_table_behind.new.names c.add_text_behind.new.names here.grows (grows_front name luts c.add_table_behind.new.names c.add_text_behind.new.names more)) in
    adds_some c.from_residual-in_err-add_text_behind.result (strings ++ loose_texts device (said device o)) c.args.names.now c.add_text_behind.new.names c.from_residual-in_err-add_text_behind.ensures.0 some

pub add_texts-requires : goal.add_texts-requires
add_texts-requires c =
    let o = object_of c.args.root in
    let strings : List Text = table_said device o in
    let name : List Text = sound_text o 0 ∷ [] in
    let luts : List Text = loose_texts lut_definitions (said lut_definitions (sound_struct o 12)) in
    let here : Knows strings c.args.names.now c.add_table_behind.new.names = c.in_ok-strings.ensures.adds in
    let more : Knows name c.add_table_behind.new.names c.add_text_behind.new.names = c.in_ok-add_text_behind.ensures in
    rw c.sound_obj.ensures (room_rest name luts c.add_table_behind.new.names c.add_text_behind.new.names (room_rest strings (name ++ luts) c.args.names.now c.add_table_behind.new.names (subst (λ (us : List Text). HasRoom (strings ++ us) c.args.names.now) (texts_of_root o) c.requires) here.grows) more.grows)

pub returns-in_err-add_texts-clause-adds : goal.returns-in_err-add_texts-clause-adds
returns-in_err-add_texts-clause-adds c =
    let o = object_of c.args.root in
    let strings : List Text = table_said device o in
    let name : List Text = sound_text o 0 ∷ [] in
    let luts : List Text = loose_texts lut_definitions (said lut_definitions (sound_struct o 12)) in
    let here : Knows strings c.args.names.now c.add_table_behind.new.names = c.in_ok-strings.ensures.adds in
    let more : Knows name c.add_table_behind.new.names c.add_text_behind.new.names = c.in_ok-add_text_behind.ensures in
    let last : Grows luts c.add_text_behind.new.names c.add_texts.new.names = rw c.sound_obj.ensures at c.in_err-add_texts.ensures in
    let some : Grows (strings ++ loose_texts device (said device o)) c.args.names.now c.add_texts.new.names =
    subst (λ (us : List Text). Grows (strings ++ us) c.args.names.now c.add_texts.new.names) (sym (texts_of_root o))
    (grows_on strings (name ++ luts) c.args.names.now c.add_table_behind.new.names c.add_texts.new.names here.grows (grows_on name luts c.add_table_behind.new.names c.add_text_behind.new.names c.add_texts.new.names more.grows last)) in
    adds_some c.from_residual-in_err-add_texts.result (strings ++ loose_texts device (said device o)) c.args.names.now c.add_texts.new.names c.from_residual-in_err-add_texts.ensures.0 some

pub returns-clause-adds : goal.returns-clause-adds
returns-clause-adds c =
    let o = object_of c.args.root in
    let strings : List Text = table_said device o in
    let name : List Text = sound_text o 0 ∷ [] in
    let luts : List Text = loose_texts lut_definitions (said lut_definitions (sound_struct o 12)) in
    let here : Knows strings c.args.names.now c.add_table_behind.new.names = c.in_ok-strings.ensures.adds in
    let more : Knows name c.add_table_behind.new.names c.add_text_behind.new.names = c.in_ok-add_text_behind.ensures in
    let last : Knows luts c.add_text_behind.new.names c.add_texts.new.names = rw c.sound_obj.ensures at c.in_ok-add_texts.ensures in
    subst (λ (us : List Text). Knows (strings ++ us) c.args.names.now c.add_texts.new.names) (sym (texts_of_root o))
    (knows_on strings (name ++ luts) c.args.names.now c.add_table_behind.new.names c.add_texts.new.names here (knows_on name luts c.add_table_behind.new.names c.add_text_behind.new.names c.add_texts.new.names more last))

pub returns-clause-numbers : goal.returns-clause-numbers
returns-clause-numbers c =
    let o = object_of c.args.root in
    let table : List Text = table_said device o in
    numbers_keep c.add_table_behind.new.names c.add_texts.new.names (λ id t at. c.in_ok-add_texts.ensures.grows.keeps id t (c.in_ok-add_text_behind.ensures.grows.keeps id t at)) c.in_ok-strings.strings table c.in_ok-strings.ensures.numbers
