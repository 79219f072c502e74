use Rattle.std.proofs.Common.{◌≡◌, ◌<◌, ◌∙◌, ℕ, ap, sym, arith, length, get_or, set}
use Rattle.std.proofs.lemmas.List.{get_or_read}
use Rattle.ix_message_write.proofs.FirstUses.{noted_before, noted_full, noted_now}
use Rattle.ix_message_write.proofs.string_table.Strings.note.Goals as goal

pub returns-then-index-ne0 : goal.returns-then-index-ne0
returns-then-index-ne0 c =
    let places = c.args.self.now.places.items in
    let lt : c.get-place.result < length places = omega (arith, c.get-place.ensures, c.requires.named, c.requires.table.long) in
    let read : c.index.result.now ≡ get_or places c.args.id 0 = get_or_read places c.get-place.result c.index.result.now lt c.index.ensures 0 ∙ ap (λ (k : ℕ). get_or places k 0) c.get-place.ensures in
    noted_before c.args.names.now c.args.self.now c.args.id c.requires.table c.requires.named (λ e. c.if-index-ne0.true (read ∙ e))

pub returns-then-len-ge-MOST_TEXTS : goal.returns-then-len-ge-MOST_TEXTS
returns-then-len-ge-MOST_TEXTS c = noted_full c.args.names.now c.args.self.now c.args.id (omega (arith, c.len.ensures, c.if-len-ge-MOST_TEXTS.true))

pub returns : goal.returns
returns c =
    let places = c.args.self.now.places.items in
    let lt : c.get-place.result < length places = omega (arith, c.get-place.ensures, c.requires.named, c.requires.table.long) in
    let read : c.index.result.now ≡ get_or places c.args.id 0 = get_or_read places c.get-place.result c.index.result.now lt c.index.ensures 0 ∙ ap (λ (k : ℕ). get_or places k 0) c.get-place.ensures in
    let count : c.len-2.result ≡ length c.push.new.self.items = omega (arith, c.len-2.ensures) in
    noted_now c.args.names.now c.args.self.now _ c.args.id c.requires.table c.requires.named (sym read ∙ c.if-index-ne0.false) (omega (arith, c.len.ensures, c.if-len-ge-MOST_TEXTS.false)) c.in-Ok.ensures.items
    (ap (λ (k : ℕ). set places k c.len-2.result) c.get-place.ensures ∙ ap (λ (n : ℕ). set places c.args.id n) count)
