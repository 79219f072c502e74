use Rattle.std.proofs.Common.{◌≡◌, ◌<◌, ◌≤◌, ◌+◌, ◌*◌, ◌∙◌, ℕ, List, false, length, map, ap, arith, sym, subst, refl, Err}
use Rattle.std.proofs.lemmas.List.{length-map}
use Rattle.ix_message.specs.Layout.{Laid, Section, section_of, structs_laid}
use Rattle.ix_message.specs.Names.{numbered, place_in}
use Rattle.ix_capw.specs.Frame.{words_in}
use Rattle.ix_capw.specs.Growth.{pointer_word, blank_structs, with_object, too_long}
use Rattle.ix_capw.specs.declared.builder.At.{At}
use Rattle.ix_capw.specs.declared.builder.ListAt.{ListAt}
use Rattle.ix_message_write.specs.Table.{table_in}
use Rattle.ix_message_write.specs.Says.{Puts, HasPut, Writes, HasWritten}
use Rattle.ix_message_write.proofs.Laid.{many_refused, element_inside}
use Rattle.ix_message_write.proofs.Turns.{WrittenSoFar, map_thrice, all_of, list_stops, element_stops, list_done, written_turn, same_blank, not_true}
use Rattle.ix_message_write.proofs.lists.write_list.Goals as goal

pub returns-then-len : goal.returns-then-len
returns-then-len g c =
    let names = c.args.names.now in
    let table = table_in names c.args.strings.now in
    let shape = g.T.StructWriter.shape in
    let S = c.args.builder.now in
    let all = map (section_of table shape) (map (numbered (place_in table) shape) (map (g.T.StructWriter.record_by names) c.args.list.now)) in
    many_refused all S (omega (arith, length-map (map (numbered (place_in table) shape) (map (g.T.StructWriter.record_by names) c.args.list.now)) (section_of table shape), length-map (map (g.T.StructWriter.record_by names) c.args.list.now) (numbered (place_in table) shape), length-map c.args.list.now (g.T.StructWriter.record_by names), c.len.ensures, c.if-len.true))

pub returns-in-Err : goal.returns-in-Err
returns-in-Err g c =
    let names = c.args.names.now in
    let table = table_in names c.args.strings.now in
    let F = section_of table g.T.StructWriter.shape in
    let G = numbered (place_in table) g.T.StructWriter.shape in
    let H = g.T.StructWriter.record_by names in
    let d = g.T.StructWriter.WORDS in
    let n = g.T.StructWriter.POINTERS in
    let wide = g.met.T.StructWriter.is_wide names table in
    let S = c.args.builder.now in
    let q = pointer_word c.args.at c.args.slot in
    let k = c.len-count.result in
    let xs = c.args.list.now in
    let count : k ≡ length xs = omega (arith, c.len-count.ensures) in
    let inside : 8 * (q + 1) ≤ length S = omega (arith, c.requires.inside, c.requires.slot) in
    let es = map (λ x. F (G (H x))) xs in
    let k_is : k ≡ length es = count ∙ sym (length-map xs (λ x. F (G (H x)))) in
    let blank : blank_structs k c.WORDS.result c.POINTERS.result ≡ blank_structs (length es) d n = same_blank k (length es) c.WORDS.result d c.POINTERS.result n k_is c.WORDS.ensures c.POINTERS.ensures in
    subst (λ (es : List Section). Puts {X = Unit {0}} q (structs_laid es) S c.list.new.self (Err c.in-Err.fault)) (sym (map_thrice F G H xs))
    (list_stops d n q es S c.list.new.self c.in-Err.fault (all_of (λ x. F (G (H x))) d n wide xs) (λ e. sym (ap (λ (x : Laid). too_long x S) blank) ∙ c.in-Err.ensures.too_long.0 (ap Err e)))

pub write-requires-clause-inside : goal.write-requires-clause-inside
write-requires-clause-inside g c =
    let names = c.args.names.now in
    let table = table_in names c.args.strings.now in
    let F = section_of table g.T.StructWriter.shape in
    let G = numbered (place_in table) g.T.StructWriter.shape in
    let H = g.T.StructWriter.record_by names in
    let d = g.T.StructWriter.WORDS in
    let n = g.T.StructWriter.POINTERS in
    let wide = g.met.T.StructWriter.is_wide names table in
    let S = c.args.builder.now in
    let q = pointer_word c.args.at c.args.slot in
    let k = c.len-count.result in
    let xs = c.args.list.now in
    let count : k ≡ length xs = omega (arith, c.len-count.ensures) in
    let inside : 8 * (q + 1) ≤ length S = omega (arith, c.requires.inside, c.requires.slot) in
    let first = c.list.new.self in
    let i = c.loop-i.i in
    let blank : blank_structs k c.WORDS.result c.POINTERS.result ≡ blank_structs k d n = same_blank k k c.WORDS.result d c.POINTERS.result n refl c.WORDS.ensures c.POINTERS.ensures in
    let made : first ≡ with_object q (blank_structs k d n) S = c.in-Ok.ensures.made ∙ ap (λ (x : Laid). with_object q x S) blank in
    let short : too_long (blank_structs k d n) S ≡ false = sym (ap (λ (x : Laid). too_long x S) blank) ∙ not_true (too_long (blank_structs k c.WORDS.result c.POINTERS.result) S) (λ t. let e = c.in-Ok.ensures.too_long.1 t in absurd cc) in
    let start_is : c.in-Ok.elements.start ≡ words_in S + 1 = ap (λ (l : ListAt). l.start) c.in-Ok.ensures.list in
    let size_is : c.in-Ok.elements.words + c.in-Ok.elements.pointers ≡ d + n = ap (λ (l : ListAt). l.words + l.pointers) c.in-Ok.ensures.list ∙ ap (λ (t : ℕ). t + c.POINTERS.result) c.WORDS.ensures ∙ ap (λ (t : ℕ). d + t) c.POINTERS.ensures in
    let lt : i < length xs = omega (arith, count, c.loop-i-test.true) in
    let at_is : c.at-in-loop-i.result.start ≡ c.in-Ok.elements.start + i * (d + n) = ap (λ (a : At). a.start) c.at-in-loop-i.ensures ∙ ap (λ (t : ℕ). c.in-Ok.elements.start + i * t) size_is in
    let room = element_inside d n q k i S first c.loop-i.builder made inside c.in-Ok.ensures.segment.whole (omega arith) c.loop-i.invariant.grown in
    let sizes : c.at-in-loop-i.result.words + c.at-in-loop-i.result.pointers ≡ d + n = ap (λ (a : At). a.words + a.pointers) c.at-in-loop-i.ensures ∙ size_is in
    omega (arith, room, at_is, start_is, sizes)

pub returns-in-Err-write : goal.returns-in-Err-write
returns-in-Err-write g c =
    let names = c.args.names.now in
    let table = table_in names c.args.strings.now in
    let F = section_of table g.T.StructWriter.shape in
    let G = numbered (place_in table) g.T.StructWriter.shape in
    let H = g.T.StructWriter.record_by names in
    let d = g.T.StructWriter.WORDS in
    let n = g.T.StructWriter.POINTERS in
    let wide = g.met.T.StructWriter.is_wide names table in
    let S = c.args.builder.now in
    let q = pointer_word c.args.at c.args.slot in
    let k = c.len-count.result in
    let xs = c.args.list.now in
    let count : k ≡ length xs = omega (arith, c.len-count.ensures) in
    let inside : 8 * (q + 1) ≤ length S = omega (arith, c.requires.inside, c.requires.slot) in
    let first = c.list.new.self in
    let i = c.loop-i.i in
    let blank : blank_structs k c.WORDS.result c.POINTERS.result ≡ blank_structs k d n = same_blank k k c.WORDS.result d c.POINTERS.result n refl c.WORDS.ensures c.POINTERS.ensures in
    let made : first ≡ with_object q (blank_structs k d n) S = c.in-Ok.ensures.made ∙ ap (λ (x : Laid). with_object q x S) blank in
    let short : too_long (blank_structs k d n) S ≡ false = sym (ap (λ (x : Laid). too_long x S) blank) ∙ not_true (too_long (blank_structs k c.WORDS.result c.POINTERS.result) S) (λ t. let e = c.in-Ok.ensures.too_long.1 t in absurd cc) in
    let start_is : c.in-Ok.elements.start ≡ words_in S + 1 = ap (λ (l : ListAt). l.start) c.in-Ok.ensures.list in
    let size_is : c.in-Ok.elements.words + c.in-Ok.elements.pointers ≡ d + n = ap (λ (l : ListAt). l.words + l.pointers) c.in-Ok.ensures.list ∙ ap (λ (t : ℕ). t + c.POINTERS.result) c.WORDS.ensures ∙ ap (λ (t : ℕ). d + t) c.POINTERS.ensures in
    let lt : i < length xs = omega (arith, count, c.loop-i-test.true) in
    let at_is : c.at-in-loop-i.result.start ≡ c.in-Ok.elements.start + i * (d + n) = ap (λ (a : At). a.start) c.at-in-loop-i.ensures ∙ ap (λ (t : ℕ). c.in-Ok.elements.start + i * t) size_is in
    subst (λ (es : List Section). Puts {X = Unit {0}} q (structs_laid es) S c.write.new.builder (Err c.in-Err-write.fault)) (sym (map_thrice F G H xs))
    (element_stops d n q c.in-Ok.elements.start k (λ x. F (G (H x))) xs i c.at.result.now S first c.loop-i.builder c.write.new.builder c.in-Err-write.fault count wide inside short made lt c.at.ensures c.loop-i.invariant
    (subst (λ (p : ℕ). Writes {X = Unit {0}} p (F (G (H c.at.result.now))) c.loop-i.builder c.write.new.builder (Err c.in-Err-write.fault)) at_is c.in-Err-write.ensures))

pub loop-i-preserved : goal.loop-i-preserved
loop-i-preserved g c =
    let names = c.args.names.now in
    let table = table_in names c.args.strings.now in
    let F = section_of table g.T.StructWriter.shape in
    let G = numbered (place_in table) g.T.StructWriter.shape in
    let H = g.T.StructWriter.record_by names in
    let d = g.T.StructWriter.WORDS in
    let n = g.T.StructWriter.POINTERS in
    let wide = g.met.T.StructWriter.is_wide names table in
    let S = c.args.builder.now in
    let q = pointer_word c.args.at c.args.slot in
    let k = c.len-count.result in
    let xs = c.args.list.now in
    let count : k ≡ length xs = omega (arith, c.len-count.ensures) in
    let inside : 8 * (q + 1) ≤ length S = omega (arith, c.requires.inside, c.requires.slot) in
    let first = c.list.new.self in
    let i = c.loop-i.i in
    let blank : blank_structs k c.WORDS.result c.POINTERS.result ≡ blank_structs k d n = same_blank k k c.WORDS.result d c.POINTERS.result n refl c.WORDS.ensures c.POINTERS.ensures in
    let made : first ≡ with_object q (blank_structs k d n) S = c.in-Ok.ensures.made ∙ ap (λ (x : Laid). with_object q x S) blank in
    let short : too_long (blank_structs k d n) S ≡ false = sym (ap (λ (x : Laid). too_long x S) blank) ∙ not_true (too_long (blank_structs k c.WORDS.result c.POINTERS.result) S) (λ t. let e = c.in-Ok.ensures.too_long.1 t in absurd cc) in
    let start_is : c.in-Ok.elements.start ≡ words_in S + 1 = ap (λ (l : ListAt). l.start) c.in-Ok.ensures.list in
    let size_is : c.in-Ok.elements.words + c.in-Ok.elements.pointers ≡ d + n = ap (λ (l : ListAt). l.words + l.pointers) c.in-Ok.ensures.list ∙ ap (λ (t : ℕ). t + c.POINTERS.result) c.WORDS.ensures ∙ ap (λ (t : ℕ). d + t) c.POINTERS.ensures in
    let lt : i < length xs = omega (arith, count, c.loop-i-test.true) in
    let at_is : c.at-in-loop-i.result.start ≡ c.in-Ok.elements.start + i * (d + n) = ap (λ (a : At). a.start) c.at-in-loop-i.ensures ∙ ap (λ (t : ℕ). c.in-Ok.elements.start + i * t) size_is in
    let room = element_inside d n q k i S first first made inside c.in-Ok.ensures.segment.whole (omega arith) (omega arith) in
    written_turn d n c.in-Ok.elements.start (λ x. F (G (H x))) xs i c.at.result.now first c.loop-i.builder c.write.new.builder (wide c.at.result.now) lt c.at.ensures (omega (arith, room, start_is)) c.loop-i.invariant
    (subst (λ (p : ℕ). HasWritten p (F (G (H c.at.result.now))) c.loop-i.builder c.write.new.builder) at_is c.in-Ok-write.ensures)

pub returns : goal.returns
returns g c =
    let names = c.args.names.now in
    let table = table_in names c.args.strings.now in
    let F = section_of table g.T.StructWriter.shape in
    let G = numbered (place_in table) g.T.StructWriter.shape in
    let H = g.T.StructWriter.record_by names in
    let d = g.T.StructWriter.WORDS in
    let n = g.T.StructWriter.POINTERS in
    let wide = g.met.T.StructWriter.is_wide names table in
    let S = c.args.builder.now in
    let q = pointer_word c.args.at c.args.slot in
    let k = c.len-count.result in
    let xs = c.args.list.now in
    let count : k ≡ length xs = omega (arith, c.len-count.ensures) in
    let inside : 8 * (q + 1) ≤ length S = omega (arith, c.requires.inside, c.requires.slot) in
    let first = c.list.new.self in
    let i = c.loop-i.i in
    let blank : blank_structs k c.WORDS.result c.POINTERS.result ≡ blank_structs k d n = same_blank k k c.WORDS.result d c.POINTERS.result n refl c.WORDS.ensures c.POINTERS.ensures in
    let made : first ≡ with_object q (blank_structs k d n) S = c.in-Ok.ensures.made ∙ ap (λ (x : Laid). with_object q x S) blank in
    let short : too_long (blank_structs k d n) S ≡ false = sym (ap (λ (x : Laid). too_long x S) blank) ∙ not_true (too_long (blank_structs k c.WORDS.result c.POINTERS.result) S) (λ t. let e = c.in-Ok.ensures.too_long.1 t in absurd cc) in
    let start_is : c.in-Ok.elements.start ≡ words_in S + 1 = ap (λ (l : ListAt). l.start) c.in-Ok.ensures.list in
    let size_is : c.in-Ok.elements.words + c.in-Ok.elements.pointers ≡ d + n = ap (λ (l : ListAt). l.words + l.pointers) c.in-Ok.ensures.list ∙ ap (λ (t : ℕ). t + c.POINTERS.result) c.WORDS.ensures ∙ ap (λ (t : ℕ). d + t) c.POINTERS.ensures in
    subst (λ (es : List Section). HasPut q (structs_laid es) S c.loop-i.builder) (sym (map_thrice F G H xs))
    (list_done d n q k (λ x. F (G (H x))) xs i S first c.loop-i.builder count wide inside short made c.in-Ok.ensures.segment.whole (omega (arith, c.loop-i-test.false))
    (subst (λ (p : ℕ). WrittenSoFar p (d + n) (λ x. F (G (H x))) xs i first c.loop-i.builder) start_is c.loop-i.invariant))
