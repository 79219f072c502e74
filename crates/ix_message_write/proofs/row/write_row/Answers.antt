use Rattle.std.proofs.Common.{◌≡◌, ◌+◌, ◌*◌, ◌∙◌, ◌++◌, ℕ, List, ap, arith, length}
use Rattle.byteorder.specs.Endian.{little_bytes}
use Rattle.ix_message.specs.Layout.{number_bytes}
use Rattle.ix_message.proofs.Stands.{length-number_bytes}
use Rattle.ix_capw.specs.Growth.{written}
use Rattle.ix_message_write.proofs.RowLemmas.{written_next, section_odd}
use Rattle.ix_message_write.proofs.row.write_row.Goals as goal

pub returns-then-numbers-eq1-clause-made : goal.returns-then-numbers-eq1-clause-made
returns-then-numbers-eq1-clause-made c =
    let S = c.args.builder.now in
    let row = c.args.numbers.now in
    let p = 8 * c.args.at.start in
    let n = 4 * length row in
    let size : n + 4 ≡ 8 * c.args.at.words = omega (arith, c.if-numbers-eq1.true, c.requires.whole) in
    c.set_u32.ensures.made ∙ ap (written (p + n) 4 (little_bytes 4 0)) c.write_numbers.ensures.made
    ∙ written_next S (number_bytes row) (little_bytes 4 0) p n 4 (length-number_bytes row) (omega (arith, c.requires.inside, size))
    ∙ ap (λ (k : ℕ). written p k (number_bytes row ++ little_bytes 4 0) S) size ∙ ap (λ (b : List ℕ). written p (8 * c.args.at.words) b S) (section_odd row c.if-numbers-eq1.true)
