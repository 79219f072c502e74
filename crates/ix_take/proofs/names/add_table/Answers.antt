use Rattle.std.proofs.Common.{◌≡◌, ◌<◌, ◌≤◌, ◌+◌, ◌∙◌, ◌∷◌, [], ◌++◌, List, length, take, sym, ap}
use Rattle.std.proofs.Common.{subst, arith}
use Rattle.std.proofs.lemmas.List.{take_all}
use Rattle.ix_device_read.specs.Loose.{with_names, AreNumbersOf}
use Rattle.ix_frame.specs.Sound.{sound_text_in}
use Rattle.ix_frame.specs.Views.{text_elements}
use Rattle.ix_message.specs.Shape.{Text}
use Rattle.ix_schema.specs.Said.{texts_said}
use Rattle.ix_strings.specs.Names.{with_name}
use Rattle.ix_take.proofs.Texts.{with_names_on, numbers_keep, numbers_push, taken_more}
use Rattle.ix_take.proofs.Texts.{text_said_at, texts_length}
use Rattle.ix_take.proofs.names.add_table.Goals as goal

pub add-requires : goal.add-requires
add-requires c =
    let l = text_elements c.args.l in
    let lt : c.loop-i.i < l.count = omega arith in
    let most = c.loop-i.invariant.most in
    let room = c.requires in
    omega arith

pub loop-i-preserved : goal.loop-i-preserved
loop-i-preserved c =
    let l = text_elements c.args.l in
    let i = c.loop-i.i in
    let lt : i < l.count = omega arith in
    let ts : List Text = texts_said l.count l 0 in
    let t : Text = sound_text_in l i in
    let more : take (i + 1) ts ≡ take i ts ++ t ∷ [] =
    taken_more ts i t (text_said_at l.count l i lt) in
    let added : c.add.new.self ≡ with_name c.loop-i.names t =
    rw c.sound_at.ensures at c.in-Ok.ensures.names in
    let number = rw c.sound_at.ensures at c.in-Ok.ensures.text in
    record {
      adds = added ∙ ap (λ (names : List Text). with_name names t) c.loop-i.invariant.adds
          ∙ sym (with_names_on c.args.names.now (take i ts) (t ∷ []))
          ∙ ap (with_names c.args.names.now) (sym more);
      numbers = rw (c.in_ok-push.ensures.ok, more)
          (numbers_push c.add.new.self c.loop-i.found (take i ts) c.in-Ok.id t
          (numbers_keep c.loop-i.names c.add.new.self c.in-Ok.ensures.keeps c.loop-i.found
          (take i ts) c.loop-i.invariant.numbers) number);
      keeps = λ id text at. c.in-Ok.ensures.keeps id text (c.loop-i.invariant.keeps id text at);
      most = omega (arith, c.in-Ok.ensures.one_more, c.loop-i.invariant.most);
    }

pub returns-clause-adds : goal.returns-clause-adds
returns-clause-adds c =
    let l = text_elements c.args.l in
    let ts : List Text = texts_said l.count l 0 in
    let le : length ts ≤ c.loop-i.i = omega (arith, texts_length l.count l 0) in
    c.loop-i.invariant.adds ∙ ap (with_names c.args.names.now) (take_all c.loop-i.i ts le)

pub returns-clause-numbers : goal.returns-clause-numbers
returns-clause-numbers c =
    let l = text_elements c.args.l in
    let ts : List Text = texts_said l.count l 0 in
    let le : length ts ≤ c.loop-i.i = omega (arith, texts_length l.count l 0) in
    subst (λ (us : List Text). AreNumbersOf c.loop-i.names c.loop-i.found us)
    (take_all c.loop-i.i ts le) c.loop-i.invariant.numbers
