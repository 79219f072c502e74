use Rattle.std.proofs.Common.{◌∷◌, [], ◌<◌, ◌≤◌, List, length, subst, sym, arith}
use Rattle.ix_frame.specs.Sound.{sound_text_in}
use Rattle.ix_frame.specs.Views.{text_elements}
use Rattle.ix_message.specs.Shape.{Text}
use Rattle.ix_schema.specs.Said.{texts_said}
use Rattle.ix_device_read.specs.Loose.{HasRoom, Grows, Knows}
use Rattle.ix_device_read.proofs.Adding.{item_room, item_added, item_stops, all_added, ones}
use Rattle.ix_device_read.proofs.Said.{text_said_at, texts_length}
use Rattle.ix_device_read.proofs.intern.add_each.Goals as goal

pub add_text-requires : goal.add_text-requires
add_text-requires c =
    let l = text_elements c.args.l in
    let lt : c.loop-i.i < l.count = omega arith in
    let ts : List Text = texts_said l.count l 0 in
    rw (c.sound_at.ensures) (item_room (λ t. t ∷ []) ts c.args.names.now c.loop-i.i (sound_text_in l c.loop-i.i) c.loop-i.names (text_said_at l.count l c.loop-i.i lt) (subst (λ (us : List Text). HasRoom us c.args.names.now) (sym (ones ts)) c.requires) c.loop-i.invariant)

pub returns-in-Err : goal.returns-in-Err
returns-in-Err c =
    let l = text_elements c.args.l in
    let lt : c.loop-i.i < l.count = omega arith in
    let ts : List Text = texts_said l.count l 0 in
    subst (λ (us : List Text). Grows us c.args.names.now c.add_text.new.names) (ones ts) (item_stops (λ t. t ∷ []) ts c.args.names.now c.loop-i.i (sound_text_in l c.loop-i.i) c.loop-i.names c.add_text.new.names (text_said_at l.count l c.loop-i.i lt) c.loop-i.invariant (rw c.sound_at.ensures at c.in-Err.ensures.adds))

pub loop-i-preserved : goal.loop-i-preserved
loop-i-preserved c =
    let l = text_elements c.args.l in
    let lt : c.loop-i.i < l.count = omega arith in
    item_added (λ t. t ∷ []) (texts_said l.count l 0) c.args.names.now c.loop-i.i (sound_text_in l c.loop-i.i) c.loop-i.names c.add_text.new.names (text_said_at l.count l c.loop-i.i lt) c.loop-i.invariant (rw c.sound_at.ensures at c.in-Ok.ensures.adds)

pub returns : goal.returns
returns c =
    let l = text_elements c.args.l in
    let ts : List Text = texts_said l.count l 0 in
    let le : length ts ≤ c.loop-i.i = omega (arith, texts_length l.count l 0) in
    subst (λ (us : List Text). Knows us c.args.names.now c.loop-i.names) (ones ts) (all_added (λ t. t ∷ []) ts c.args.names.now c.loop-i.i c.loop-i.names le c.loop-i.invariant)
