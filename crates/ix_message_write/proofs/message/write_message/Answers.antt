use Rattle.std.proofs.Common.{◌≡◌, ◌≤◌, ◌^◌, ◌∙◌, ℕ, List, length, ap, subst, Err}
use Rattle.ix_message.specs.Names.{table_of, uses, first_uses, numbered, place_in}
use Rattle.ix_message.specs.Layout.{section_of}
use Rattle.ix_message.specs.Shape.{Text}
use Rattle.ix_capw.specs.Frame.{root_segment, frame_bytes}
use Rattle.ix_capw.specs.declared.builder.At.{At}
use Rattle.ix_capw.specs.declared.builder.BuildFault.{BuildFault}
use Rattle.ix_capw.specs.declared.builder.BuildFault.TheVariants.{TooLong}
use Rattle.ix_message_write.specs.Table.{table_in}
use Rattle.ix_message_write.specs.Growth.{NoRoom}
use Rattle.ix_message_write.specs.Says.{Notes, Writes, HasWritten}
use Rattle.ix_message_write.proofs.Whole.{many_texts, root_refused, root_written, encoding_is, not_too_long}
use Rattle.ix_message_write.proofs.message.write_message.Goals as goal

pub returns-in-Err-note-clause-too_long : goal.returns-in-Err-note-clause-too_long
returns-in-Err-note-clause-too_long g c = λ e.
    let names = c.args.names.now in
    let s = g.T.StructWriter.shape in
    let r = g.T.StructWriter.record_by names c.args.root.now in
    let fault : c.in-Err-note.fault ≡ TooLong = cc in
    let many : 2 ^ 27 ≤ length (first_uses (table_in names c.in-Ok.strings) (uses s r)) = subst (λ (f : BuildFault). Notes {X = Unit {0}} names c.in-Ok.strings c.note.new.strings (uses s r) (Err f)) fault c.in-Err-note.ensures in
    many_texts s r c.requires.root (subst (λ (t : List Text). 2 ^ 27 ≤ length (first_uses t (uses s r))) c.in-Ok.ensures.empty many)

pub returns-in-Err-write-clause-too_long : goal.returns-in-Err-write-clause-too_long
returns-in-Err-write-clause-too_long g c = λ wrong.
    let names = c.args.names.now in
    let s = g.T.StructWriter.shape in
    let r = g.T.StructWriter.record_by names c.args.root.now in
    let d = g.T.StructWriter.WORDS in
    let n = g.T.StructWriter.POINTERS in
    let table = table_in names c.note.new.strings in
    let same : table ≡ table_of s r = c.in-Ok-note.ensures.texts ∙ ap (λ (t : List Text). first_uses t (uses s r)) c.in-Ok.ensures.empty in
    let wide = g.met.T.StructWriter.is_wide names table c.args.root.now in
    let e = section_of table s (numbered (place_in table) s r) in
    let blank : c.root.new.self ≡ root_segment d n = c.in-Ok-root.ensures.made ∙ ap (λ (k : ℕ). root_segment k c.POINTERS.result) c.WORDS.ensures ∙ ap (root_segment d) c.POINTERS.ensures in
    let start : c.in-Ok-root.at.start ≡ 1 = ap (λ (a : At). a.start) c.in-Ok-root.ensures.at in
    let fault : c.in-Err-write.fault ≡ TooLong = cc in
    let refused : NoRoom e.behind c.root.new.self = subst (λ (f : BuildFault). Writes {X = Unit {0}} c.in-Ok-root.at.start e c.root.new.self c.write.new.builder (Err f)) fault c.in-Err-write.ensures in
    root_refused d n s r table same wide (subst (NoRoom e.behind) blank refused)

pub returns-in-Ok-finish-clause-bytes : goal.returns-in-Ok-finish-clause-bytes
returns-in-Ok-finish-clause-bytes g c =
    let names = c.args.names.now in
    let s = g.T.StructWriter.shape in
    let r = g.T.StructWriter.record_by names c.args.root.now in
    let d = g.T.StructWriter.WORDS in
    let n = g.T.StructWriter.POINTERS in
    let table = table_in names c.note.new.strings in
    let same : table ≡ table_of s r = c.in-Ok-note.ensures.texts ∙ ap (λ (t : List Text). first_uses t (uses s r)) c.in-Ok.ensures.empty in
    let wide = g.met.T.StructWriter.is_wide names table c.args.root.now in
    let e = section_of table s (numbered (place_in table) s r) in
    let blank : c.root.new.self ≡ root_segment d n = c.in-Ok-root.ensures.made ∙ ap (λ (k : ℕ). root_segment k c.POINTERS.result) c.WORDS.ensures ∙ ap (root_segment d) c.POINTERS.ensures in
    let start : c.in-Ok-root.at.start ≡ 1 = ap (λ (a : At). a.start) c.in-Ok-root.ensures.at in
    let wrote : HasWritten 1 e (root_segment d n) c.write.new.builder = subst (λ (p : ℕ). HasWritten p e (root_segment d n) c.write.new.builder) start (subst (λ (S : List ℕ). HasWritten c.in-Ok-root.at.start e S c.write.new.builder) blank c.in-Ok-write.ensures) in
    c.in-Ok-finish.ensures.bytes ∙ ap frame_bytes (root_written d n s r table c.write.new.builder same wide wrote) ∙ encoding_is s r

pub returns-in-Ok-finish-clause-fits : goal.returns-in-Ok-finish-clause-fits
returns-in-Ok-finish-clause-fits g c =
    let names = c.args.names.now in
    let s = g.T.StructWriter.shape in
    let r = g.T.StructWriter.record_by names c.args.root.now in
    let d = g.T.StructWriter.WORDS in
    let n = g.T.StructWriter.POINTERS in
    let table = table_in names c.note.new.strings in
    let same : table ≡ table_of s r = c.in-Ok-note.ensures.texts ∙ ap (λ (t : List Text). first_uses t (uses s r)) c.in-Ok.ensures.empty in
    let wide = g.met.T.StructWriter.is_wide names table c.args.root.now in
    let e = section_of table s (numbered (place_in table) s r) in
    let blank : c.root.new.self ≡ root_segment d n = c.in-Ok-root.ensures.made ∙ ap (λ (k : ℕ). root_segment k c.POINTERS.result) c.WORDS.ensures ∙ ap (root_segment d) c.POINTERS.ensures in
    let start : c.in-Ok-root.at.start ≡ 1 = ap (λ (a : At). a.start) c.in-Ok-root.ensures.at in
    let wrote : HasWritten 1 e (root_segment d n) c.write.new.builder = subst (λ (p : ℕ). HasWritten p e (root_segment d n) c.write.new.builder) start (subst (λ (S : List ℕ). HasWritten c.in-Ok-root.at.start e S c.write.new.builder) blank c.in-Ok-write.ensures) in
    not_too_long s r table c.write.new.builder same (root_written d n s r table c.write.new.builder same wide wrote) wrote.segment wrote.fits
