use Rattle.std.proofs.Common.{◌∷◌, [], ◌+◌, ◌<◌, ◌≤◌, List, take, length, subst, sym, arith}
use Rattle.std.proofs.lemmas.List.{take_all}
use Rattle.ix_frame.specs.Sound.{sound_text_in}
use Rattle.ix_frame.specs.Views.{text_elements}
use Rattle.ix_message.specs.Shape.{Text}
use Rattle.ix_schema.specs.Said.{texts_said}
use Rattle.ix_device_read.specs.Loose.{HasRoom, Grows, Knows, AreNumbersOf}
use Rattle.ix_device_read.proofs.Adding.{item_room, item_added, item_stops, all_added, ones, taken_more, numbers_keep, numbers-push, front_added, adds_some}
use Rattle.ix_device_read.proofs.Said.{text_said_at, texts_length}
use Rattle.ix_device_read.proofs.intern.add_table.Goals as goal

pub add_text-requires : goal.add_text-requires
add_text-requires c =
    let l = text_elements c.args.l in
    let lt : c.loop-i.i < l.count = omega arith in
    let ts : List Text = texts_said l.count l 0 in
    rw (c.sound_at.ensures) (item_room (λ t. t ∷ []) ts c.args.names.now c.loop-i.i (sound_text_in l c.loop-i.i) c.loop-i.names (text_said_at l.count l c.loop-i.i lt) (subst (λ (us : List Text). HasRoom us c.args.names.now) (sym (ones ts)) c.requires) c.loop-i.invariant.0)

pub returns-in-Err-clause-adds : goal.returns-in-Err-clause-adds
returns-in-Err-clause-adds c =
    let l = text_elements c.args.l in
    let lt : c.loop-i.i < l.count = omega arith in
    let ts : List Text = texts_said l.count l 0 in
    subst (λ (us : List Text). Grows us c.args.names.now c.add_text.new.names) (ones ts) (item_stops (λ t. t ∷ []) ts c.args.names.now c.loop-i.i (sound_text_in l c.loop-i.i) c.loop-i.names c.add_text.new.names (text_said_at l.count l c.loop-i.i lt) c.loop-i.invariant.0 (rw c.sound_at.ensures at c.in-Err.ensures.adds))

pub returns-in_err-push-clause-adds : goal.returns-in_err-push-clause-adds
returns-in_err-push-clause-adds c =
    let l = text_elements c.args.l in
    let lt : c.loop-i.i < l.count = omega arith in
    let ts : List Text = texts_said l.count l 0 in
    let more = item_added (λ t. t ∷ []) ts c.args.names.now c.loop-i.i (sound_text_in l c.loop-i.i) c.loop-i.names c.add_text.new.names (text_said_at l.count l c.loop-i.i lt) c.loop-i.invariant.0 (rw c.sound_at.ensures at c.in-Ok.ensures.adds) in
    let some : Grows ts c.args.names.now c.add_text.new.names = subst (λ (us : List Text). Grows us c.args.names.now c.add_text.new.names) (ones ts) (front_added (λ t. t ∷ []) ts c.args.names.now (c.loop-i.i + 1) c.add_text.new.names more) in
    adds_some c.from_residual-in_err-push.result ts c.args.names.now c.add_text.new.names c.from_residual-in_err-push.ensures.0 some

pub loop-i-preserved : goal.loop-i-preserved
loop-i-preserved c =
    let l = text_elements c.args.l in
    let lt : c.loop-i.i < l.count = omega arith in
    let ts : List Text = texts_said l.count l 0 in
    let t = sound_text_in l c.loop-i.i in
    let at = text_said_at l.count l c.loop-i.i lt in
    let here = rw c.sound_at.ensures at c.in-Ok.ensures.adds in (
      item_added (λ t. t ∷ []) ts c.args.names.now c.loop-i.i t c.loop-i.names c.add_text.new.names at c.loop-i.invariant.0 here,
      rw (c.in_ok-push.ensures.ok, taken_more ts c.loop-i.i t at) (numbers-push c.add_text.new.names c.loop-i.found (take c.loop-i.i ts) c.in-Ok.id t (numbers_keep c.loop-i.names c.add_text.new.names here.grows.keeps c.loop-i.found (take c.loop-i.i ts) c.loop-i.invariant.1) (rw c.sound_at.ensures at c.in-Ok.ensures.number)),
    )

pub returns-clause-adds : goal.returns-clause-adds
returns-clause-adds c =
    let l = text_elements c.args.l in
    let ts : List Text = texts_said l.count l 0 in
    let le : length ts ≤ c.loop-i.i = omega (arith, texts_length l.count l 0) in
    subst (λ (us : List Text). Knows us c.args.names.now c.loop-i.names) (ones ts) (all_added (λ t. t ∷ []) ts c.args.names.now c.loop-i.i c.loop-i.names le c.loop-i.invariant.0)

pub returns-clause-numbers : goal.returns-clause-numbers
returns-clause-numbers c =
    let l = text_elements c.args.l in
    let ts : List Text = texts_said l.count l 0 in
    let le : length ts ≤ c.loop-i.i = omega (arith, texts_length l.count l 0) in
    subst (λ (us : List Text). AreNumbersOf c.loop-i.names c.loop-i.found us) (take_all c.loop-i.i ts le) c.loop-i.invariant.1
