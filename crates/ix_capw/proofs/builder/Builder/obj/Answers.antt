use Rattle.std.proofs.Common.{◌≡◌, ◌+◌, ◌-◌, ◌*◌, ◌++◌, ◌∙◌, ℕ, ap, arith, replicate}
use Rattle.byteorder.specs.Endian.{little_bytes}
use Rattle.ix_message.specs.Layout.{struct_pointer}
use Rattle.ix_capw.specs.Frame.{words_in}
use Rattle.ix_capw.specs.Growth.{written, pointer_word}
use Rattle.ix_capw.proofs.builder.Builder.obj.Goals as goal

pub returns-clause-made : goal.returns-clause-made
returns-clause-made c =
    let S = c.args.self.now in
    let w = pointer_word c.args.at c.args.slot in
    let gap = words_in S - (w + 1) in
    let same : c.struct_head.result + 4 * gap ≡ struct_pointer c.args.words c.args.pointers gap = omega (arith, c.struct_head.ensures) in
    c.in_ok-add.ensures.ok ∙ ap (λ (n : ℕ). written (8 * w) 8 (little_bytes 8 n) S ++ replicate (8 * (c.args.words + c.args.pointers)) 0) same
