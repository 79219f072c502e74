use Rattle.std.proofs.Common.{◌∷◌, [], ◌++◌, List}
use Rattle.ix_frame.specs.Sound.{sound_list, sound_text}
use Rattle.ix_frame.specs.Views.{object_of}
use Rattle.ix_message.specs.Device.{lut_bel}
use Rattle.ix_message.specs.Shape.{Text}
use Rattle.ix_schema.specs.Said.{said, texts_said}
use Rattle.ix_device_read.specs.Loose.{loose_texts}
use Rattle.ix_device_read.proofs.Adding.{room_rest, adds_some, grows_on, grows_front, knows_on}
use Rattle.ix_device_read.proofs.lut_texts.LutBelHasTexts.add_texts.Goals as goal

pub returns-in_err-add_texts_behind : goal.returns-in_err-add_texts_behind
unfolding said loose_texts
returns-in_err-add_texts_behind c =
    let o = object_of c.args.o in
    let first : List Text = sound_text o 0 ∷ [] in
    let pins : List Text = texts_said (sound_list 6 o 1).count (sound_list 6 o 1) 0 in
    let last : List Text = sound_text o 2 ∷ [] in
    adds_some c.from_residual-in_err-add_texts_behind.result (loose_texts lut_bel (said lut_bel o)) c.args.names.now c.add_texts_behind.new.names c.from_residual-in_err-add_texts_behind.ensures.0
    (grows_on first (pins ++ last) c.args.names.now c.add_text_behind.new.names c.add_texts_behind.new.names c.in_ok-add_text_behind.ensures.grows (grows_front pins last c.add_text_behind.new.names c.add_texts_behind.new.names c.in_err-add_texts_behind.ensures))

pub add_text_behind-requires-2 : goal.add_text_behind-requires-2
unfolding said loose_texts
add_text_behind-requires-2 c =
    let o = object_of c.args.o in
    let first : List Text = sound_text o 0 ∷ [] in
    let pins : List Text = texts_said (sound_list 6 o 1).count (sound_list 6 o 1) 0 in
    let last : List Text = sound_text o 2 ∷ [] in
    room_rest pins last c.add_text_behind.new.names c.add_texts_behind.new.names (room_rest first (pins ++ last) c.args.names.now c.add_text_behind.new.names c.requires c.in_ok-add_text_behind.ensures.grows) c.in_ok-add_texts_behind.ensures.grows

pub returns-in_err-add_text_behind-2 : goal.returns-in_err-add_text_behind-2
unfolding said loose_texts
returns-in_err-add_text_behind-2 c =
    let o = object_of c.args.o in
    let first : List Text = sound_text o 0 ∷ [] in
    let pins : List Text = texts_said (sound_list 6 o 1).count (sound_list 6 o 1) 0 in
    let last : List Text = sound_text o 2 ∷ [] in
    adds_some c.from_residual-in_err-add_text_behind-2.result (loose_texts lut_bel (said lut_bel o)) c.args.names.now c.add_text_behind-2.new.names c.from_residual-in_err-add_text_behind-2.ensures.0
    (grows_on first (pins ++ last) c.args.names.now c.add_text_behind.new.names c.add_text_behind-2.new.names c.in_ok-add_text_behind.ensures.grows (grows_on pins last c.add_text_behind.new.names c.add_texts_behind.new.names c.add_text_behind-2.new.names c.in_ok-add_texts_behind.ensures.grows c.in_err-add_text_behind-2.ensures))

pub returns : goal.returns
unfolding said loose_texts
returns c =
    let o = object_of c.args.o in
    let pins = texts_said (sound_list 6 o 1).count (sound_list 6 o 1) 0 in
    let last = sound_text o 2 in
    knows_on (sound_text o 0 ∷ []) (pins ++ last ∷ []) c.args.names.now c.add_text_behind.new.names c.add_text_behind-2.new.names c.in_ok-add_text_behind.ensures
    (knows_on pins (last ∷ []) c.add_text_behind.new.names c.add_texts_behind.new.names c.add_text_behind-2.new.names c.in_ok-add_texts_behind.ensures c.in_ok-add_text_behind-2.ensures)
