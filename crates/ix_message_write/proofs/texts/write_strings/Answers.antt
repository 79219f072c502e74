use Rattle.std.proofs.Common.{◌≡◌, ◌<◌, ◌≤◌, ◌+◌, ◌*◌, ◌∙◌, ℕ, List, length, map, ap, arith, sym, subst, Err}
use Rattle.std.specs.Prelude.{Some, slice_get}
use Rattle.std.proofs.lemmas.List.{length-map}
use Rattle.ix_message.specs.Layout.{text_laid}
use Rattle.ix_capw.specs.Frame.{words_in}
use Rattle.ix_capw.specs.Growth.{pointer_word, blank_texts, with_object, too_long}
use Rattle.ix_capw.specs.declared.builder.At.{At}
use Rattle.ix_capw.specs.declared.builder.ListAt.{ListAt}
use Rattle.ix_message_write.specs.Table.{table_in, name_text}
use Rattle.ix_message_write.specs.Says.{Puts, HasPut}
use Rattle.ix_message_write.proofs.Laid.{text_inside}
use Rattle.ix_message_write.proofs.Turns.{TextsSoFar, texts_stop, text_stops, texts_done, text_turn}
use Rattle.ix_message_write.proofs.Whole.{table_at}
use Rattle.ix_message_write.proofs.texts.write_strings.Goals as goal

pub returns-in-Err : goal.returns-in-Err
returns-in-Err c =
    let S = c.args.builder.now in
    let ts = table_in c.args.names.now c.args.strings.now in
    let count : length c.used-used.result.now ≡ length ts = ap length c.used-used.ensures ∙ sym (length-map c.args.strings.now.used.items (name_text c.args.names.now)) in
    texts_stop (pointer_word c.args.at c.args.slot) ts S c.texts.new.self c.in-Err.fault (λ e. sym (ap (λ (k : ℕ). too_long (blank_texts k) S) count) ∙ c.in-Err.ensures.too_long.0 (ap Err e))

pub returns-in-Err-write_text : goal.returns-in-Err-write_text
returns-in-Err-write_text c =
    let S = c.args.builder.now in
    let names = c.args.names.now in
    let ts = table_in names c.args.strings.now in
    let q = pointer_word c.args.at c.args.slot in
    let used = c.used-used.result.now in
    let i = c.loop-i.i in
    let start = c.in-Ok.elements.start in
    let first = c.texts.new.self in
    let count : length used ≡ length ts = ap length c.used-used.ensures ∙ sym (length-map c.args.strings.now.used.items (name_text names)) in
    let inside : 8 * (q + 1) ≤ length S = omega (arith, c.requires.inside, c.requires.slot) in
    let made : first ≡ with_object q (blank_texts (length ts)) S = c.in-Ok.ensures.made ∙ ap (λ (k : ℕ). with_object q (blank_texts k) S) count in
    let start_is : start ≡ words_in S = ap (λ (l : ListAt). l.start) c.in-Ok.ensures.list in
    let t = c.name-text.result.now in
    let lt_used : i < length used = omega (arith, c.loop-i-test.true) in
    let lt : i < length ts = omega (arith, count, lt_used) in
    let is : slice_get ts i ≡ Some t =
    ap (λ (us : List ℕ). slice_get (map (name_text names) us) i) (sym c.used-used.ensures) ∙ table_at names used i c.index-used-i.result t lt_used c.index-used-i.is c.name-text.ensures.text in
    let no_words : c.in-Ok.elements.words ≡ 0 = ap (λ (l : ListAt). l.words) c.in-Ok.ensures.list in
    let one_pointer : c.in-Ok.elements.pointers ≡ 1 = ap (λ (l : ListAt). l.pointers) c.in-Ok.ensures.list in
    let size : c.in-Ok.elements.words + c.in-Ok.elements.pointers ≡ 1 = omega (arith, no_words, one_pointer) in
    let at_start : c.at.result.start ≡ start + i * 1 = ap (λ (a : At). a.start) c.at.ensures ∙ ap (λ (k : ℕ). start + i * k) size in
    let at_words : c.at.result.words ≡ 0 = ap (λ (a : At). a.words) c.at.ensures ∙ no_words in
    let at_is : pointer_word c.at.result 0 ≡ start + i = omega (arith, at_start, at_words) in
    text_stops q start ts i t S first c.loop-i.builder c.write_text.new.builder c.in-Err-write_text.fault inside made lt is c.loop-i.invariant
    (subst (λ (p : ℕ). Puts {X = Unit {0}} p (text_laid t) c.loop-i.builder c.write_text.new.builder (Err c.in-Err-write_text.fault)) at_is c.in-Err-write_text.ensures)

pub loop-i-preserved : goal.loop-i-preserved
loop-i-preserved c =
    let S = c.args.builder.now in
    let names = c.args.names.now in
    let ts = table_in names c.args.strings.now in
    let q = pointer_word c.args.at c.args.slot in
    let used = c.used-used.result.now in
    let i = c.loop-i.i in
    let start = c.in-Ok.elements.start in
    let first = c.texts.new.self in
    let count : length used ≡ length ts = ap length c.used-used.ensures ∙ sym (length-map c.args.strings.now.used.items (name_text names)) in
    let inside : 8 * (q + 1) ≤ length S = omega (arith, c.requires.inside, c.requires.slot) in
    let made : first ≡ with_object q (blank_texts (length ts)) S = c.in-Ok.ensures.made ∙ ap (λ (k : ℕ). with_object q (blank_texts k) S) count in
    let start_is : start ≡ words_in S = ap (λ (l : ListAt). l.start) c.in-Ok.ensures.list in
    let t = c.name-text.result.now in
    let lt_used : i < length used = omega (arith, c.loop-i-test.true) in
    let lt : i < length ts = omega (arith, count, lt_used) in
    let is : slice_get ts i ≡ Some t =
    ap (λ (us : List ℕ). slice_get (map (name_text names) us) i) (sym c.used-used.ensures) ∙ table_at names used i c.index-used-i.result t lt_used c.index-used-i.is c.name-text.ensures.text in
    let no_words : c.in-Ok.elements.words ≡ 0 = ap (λ (l : ListAt). l.words) c.in-Ok.ensures.list in
    let one_pointer : c.in-Ok.elements.pointers ≡ 1 = ap (λ (l : ListAt). l.pointers) c.in-Ok.ensures.list in
    let size : c.in-Ok.elements.words + c.in-Ok.elements.pointers ≡ 1 = omega (arith, no_words, one_pointer) in
    let at_start : c.at.result.start ≡ start + i * 1 = ap (λ (a : At). a.start) c.at.ensures ∙ ap (λ (k : ℕ). start + i * k) size in
    let at_words : c.at.result.words ≡ 0 = ap (λ (a : At). a.words) c.at.ensures ∙ no_words in
    let at_is : pointer_word c.at.result 0 ≡ start + i = omega (arith, at_start, at_words) in
    let room = text_inside q (length ts) i S first first made inside lt (omega arith) in
    text_turn start ts i t first c.loop-i.builder c.write_text.new.builder lt is (omega (arith, room, start_is)) c.loop-i.invariant
    (subst (λ (p : ℕ). HasPut p (text_laid t) c.loop-i.builder c.write_text.new.builder) at_is c.in-Ok-write_text.ensures)

pub returns : goal.returns
returns c =
    let S = c.args.builder.now in
    let names = c.args.names.now in
    let ts = table_in names c.args.strings.now in
    let q = pointer_word c.args.at c.args.slot in
    let used = c.used-used.result.now in
    let i = c.loop-i.i in
    let start = c.in-Ok.elements.start in
    let first = c.texts.new.self in
    let count : length used ≡ length ts = ap length c.used-used.ensures ∙ sym (length-map c.args.strings.now.used.items (name_text names)) in
    let inside : 8 * (q + 1) ≤ length S = omega (arith, c.requires.inside, c.requires.slot) in
    let made : first ≡ with_object q (blank_texts (length ts)) S = c.in-Ok.ensures.made ∙ ap (λ (k : ℕ). with_object q (blank_texts k) S) count in
    let start_is : start ≡ words_in S = ap (λ (l : ListAt). l.start) c.in-Ok.ensures.list in
    texts_done q ts i S first c.loop-i.builder inside made c.in-Ok.ensures.segment.whole (omega (arith, count, c.loop-i-test.false))
    (subst (λ (p : ℕ). TextsSoFar p ts i first c.loop-i.builder) start_is c.loop-i.invariant)
