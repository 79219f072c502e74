use Rattle.std.proofs.Common.{◌≡◌, ◌+◌, ◌-◌, ◌*◌, ◌/◌, ◌%◌, ◌++◌, ◌∙◌, ℕ, List, length, ap, arith}
use Rattle.byteorder.specs.Endian.{little_bytes}
use Rattle.ix_message.specs.Layout.{list_pointer, number_bytes}
use Rattle.ix_message.proofs.Stands.{length-number_bytes}
use Rattle.ix_capw.specs.Frame.{words_in}
use Rattle.ix_capw.specs.Growth.{written, pointer_word}
use Rattle.ix_capw.proofs.Objects.{put_behind, numbers_rest}
use Rattle.ix_capw.proofs.builder.Builder.add_numbers.Goals as goal

pub returns-clause-ok : goal.returns-clause-ok
returns-clause-ok c =
    let S = c.args.self.now in
    let v = c.args.values.now in
    let w = pointer_word c.args.at c.args.slot in
    let gap = words_in S - (w + 1) in
    let same : c.list_head-head.result + 4 * gap ≡ list_pointer 4 (length v) gap = omega (arith, c.list_head-head.ensures) in
    put_behind S c.add.new.self c.write_numbers.new.self (number_bytes v) w (c.list_head-head.result + 4 * gap) (list_pointer 4 (length v) gap) (4 * length v) (8 * (length v / 2 + length v % 2)) (8 * c.len-start.result)
    c.len-start.ensures.segment.whole (omega (arith, c.requires.inside, c.requires.slot)) (omega (arith, c.len-start.ensures.count)) same (length-number_bytes v) (omega arith) c.in_ok-add.ensures.ok c.write_numbers.ensures.made
    ∙ ap (λ (b : List ℕ). written (8 * w) 8 (little_bytes 8 (list_pointer 4 (length v) gap)) S ++ b) (numbers_rest v)
