use Rattle.std.proofs.Common.{◌≡◌, ◌+◌, ◌-◌, ◌*◌, ◌/◌, ◌++◌, ◌∙◌, ℕ, List, length, ap, arith, refl}
use Rattle.byteorder.specs.Endian.{little_bytes}
use Rattle.ix_message.specs.Layout.{list_pointer}
use Rattle.ix_capw.specs.Frame.{words_in}
use Rattle.ix_capw.specs.Growth.{written, pointer_word}
use Rattle.ix_capw.proofs.Objects.{put_behind, text_rest}
use Rattle.ix_capw.proofs.builder.Builder.add_text.Goals as goal

pub returns-clause-ok : goal.returns-clause-ok
returns-clause-ok c =
    let S = c.args.self.now in
    let t = c.args.text.now in
    let w = pointer_word c.args.at c.args.slot in
    let n = length t + 1 in
    let gap = words_in S - (w + 1) in
    let same : c.list_head-head.result + 4 * gap ≡ list_pointer 2 n gap = omega (arith, c.list_head-head.ensures) in
    put_behind S c.add.new.self c.write_bytes.new.self t w (c.list_head-head.result + 4 * gap) (list_pointer 2 n gap) (length t) (8 * (length t / 8 + 1)) (8 * c.len-start.result)
    c.len-start.ensures.segment.whole (omega (arith, c.requires.inside, c.requires.slot)) (omega (arith, c.len-start.ensures.count)) same refl (omega arith) c.in_ok-add.ensures.ok c.write_bytes.ensures.made
    ∙ ap (λ (b : List ℕ). written (8 * w) 8 (little_bytes 8 (list_pointer 2 n gap)) S ++ b) (text_rest t)
