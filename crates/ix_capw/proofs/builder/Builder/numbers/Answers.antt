use Rattle.std.proofs.Common.{◌≡◌, ◌+◌, ◌<◌, ◌≤◌, ◌∙◌, false, length, ap, arith, sym, subst, refl, IsTrue}
use Rattle.ix_message.specs.Layout.{Laid, numbers_laid, nothing_laid}
use Rattle.ix_capw.specs.Frame.{words_in, too_many_words}
use Rattle.ix_capw.specs.Growth.{with_object, pointer_word, too_long, some_numbers}
use Rattle.ix_capw.proofs.Objects.{none_of, not_below, some_of, numbers_laid_none, numbers_laid_some, words-some_numbers, taken, refused_words}
use Rattle.ix_capw.proofs.builder.Builder.numbers.Goals as goal

pub returns-then-is_empty-clause-made : goal.returns-then-is_empty-clause-made
returns-then-is_empty-clause-made c =
    let S = c.args.self.now in
    let w = pointer_word c.args.at c.args.slot in
    let none : length c.args.values.now ≡ 0 = none_of c.args.values.now (sym c.is_empty.ensures ∙ c.if-is_empty.true) in
    c.set_zero.ensures.made ∙ ap (λ (x : Laid). with_object w x S) (sym (numbers_laid_none c.args.values.now none))

pub returns-then-is_empty-clause-too_long : goal.returns-then-is_empty-clause-too_long
returns-then-is_empty-clause-too_long c =
    let S = c.args.self.now in
    let none : length c.args.values.now ≡ 0 = none_of c.args.values.now (sym c.is_empty.ensures ∙ c.if-is_empty.true) in
    let few : words_in S + 0 < too_many_words = omega (arith, c.has_room-room.ensures.segment.few) in
    let fits : too_long (numbers_laid c.args.values.now) S ≡ false = ap (λ (x : Laid). too_long x S) (numbers_laid_none c.args.values.now none) ∙ taken nothing_laid S few refl in
    (λ e. absurd cc, λ t. absurd cc)

pub returns-then-not-room-clause-too_long : goal.returns-then-not-room-clause-too_long
returns-then-not-room-clause-too_long c =
    let S = c.args.self.now in
    let v = c.args.values.now in
    let some : 0 < length v = some_of v (sym c.is_empty.ensures ∙ c.if-is_empty.false) in
    let full : too_many_words ≤ words_in S + words_in (some_numbers v).object = omega (arith, words-some_numbers v, not_below _ _ _ c.has_room-room.ensures.room.1 c.if-not-room.true) in
    let long : IsTrue (too_long (numbers_laid v) S) = subst (λ (x : Laid). IsTrue (too_long x S)) (sym (numbers_laid_some v some)) (refused_words (some_numbers v) S full) in
    (λ _. long, λ _. refl)

pub returns-in-Err-clause-too_long : goal.returns-in-Err-clause-too_long
returns-in-Err-clause-too_long c =
    let S = c.args.self.now in
    let v = c.args.values.now in
    let some : 0 < length v = some_of v (sym c.is_empty.ensures ∙ c.if-is_empty.false) in
    let few : words_in S + words_in (some_numbers v).object < too_many_words = omega (arith, words-some_numbers v, c.has_room-room.ensures.room.0 c.if-not-room.false) in
    let fits : too_long (numbers_laid v) S ≡ false = ap (λ (x : Laid). too_long x S) (numbers_laid_some v some) ∙ taken (some_numbers v) S few refl in
    (λ e. absurd cc, λ t. absurd cc)

pub returns-in-Ok-clause-made : goal.returns-in-Ok-clause-made
returns-in-Ok-clause-made c =
    let S = c.args.self.now in
    let v = c.args.values.now in
    let w = pointer_word c.args.at c.args.slot in
    let some : 0 < length v = some_of v (sym c.is_empty.ensures ∙ c.if-is_empty.false) in
    c.in-Ok.ensures.ok ∙ ap (λ (x : Laid). with_object w x S) (sym (numbers_laid_some v some))

pub returns-in-Ok-clause-too_long : goal.returns-in-Ok-clause-too_long
returns-in-Ok-clause-too_long c =
    let S = c.args.self.now in
    let v = c.args.values.now in
    let some : 0 < length v = some_of v (sym c.is_empty.ensures ∙ c.if-is_empty.false) in
    let few : words_in S + words_in (some_numbers v).object < too_many_words = omega (arith, words-some_numbers v, c.has_room-room.ensures.room.0 c.if-not-room.false) in
    let fits : too_long (numbers_laid v) S ≡ false = ap (λ (x : Laid). too_long x S) (numbers_laid_some v some) ∙ taken (some_numbers v) S few refl in
    (λ e. absurd cc, λ t. absurd cc)
