use Rattle.std.proofs.Common.{◌≡◌, ◌+◌, ◌-◌, ◌*◌, ◌++◌, ◌∙◌, ℕ, List, ap, arith, replicate}
use Rattle.byteorder.specs.Endian.{little_bytes}
use Rattle.byteorder.specs.Numbers.{length-bytes_low_first}
use Rattle.ix_message.specs.Layout.{list_pointer, struct_pointer}
use Rattle.ix_capw.specs.Frame.{words_in}
use Rattle.ix_capw.specs.Growth.{written, pointer_word}
use Rattle.ix_capw.proofs.Objects.{put_behind}
use Rattle.ix_capw.proofs.builder.Builder.add_list.Goals as goal

pub returns-clause-ok : goal.returns-clause-ok
returns-clause-ok c =
    let S = c.args.self.now in
    let w = pointer_word c.args.at c.args.slot in
    let n = c.args.count * (c.args.words + c.args.pointers) in
    let word = 4 * c.args.count + c.struct_head.result in
    let tag = struct_pointer c.args.words c.args.pointers c.args.count in
    let gap = words_in S - (w + 1) in
    let same : c.list_head.result + 4 * gap ≡ list_pointer 7 n gap = omega (arith, c.list_head.ensures) in
    let tagged : word ≡ tag = omega (arith, c.struct_head.ensures) in
    let rest : 8 * (1 + n) - 8 ≡ 8 * n = omega arith in
    put_behind S c.add.new.self c.write_word.new.self (little_bytes 8 word) w (c.list_head.result + 4 * gap) (list_pointer 7 n gap) 8 (8 * (1 + n)) (8 * c.len-tag.result)
    c.len-tag.ensures.segment.whole (omega (arith, c.requires.inside, c.requires.slot)) (omega (arith, c.len-tag.ensures.count)) same (length-bytes_low_first 0 8 word) (omega arith) c.in_ok-add.ensures.ok c.write_word.ensures.made
    ∙ ap (λ (b : List ℕ). written (8 * w) 8 (little_bytes 8 (list_pointer 7 n gap)) S ++ (b ++ replicate (8 * (1 + n) - 8) 0)) (ap (little_bytes 8) tagged)
    ∙ ap (λ (k : ℕ). written (8 * w) 8 (little_bytes 8 (list_pointer 7 n gap)) S ++ (little_bytes 8 tag ++ replicate k 0)) rest
