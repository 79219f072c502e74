use Rattle.std.proofs.Common.{◌≡◌, ◌<◌, ◌≤◌, ◌∙◌, length, length-set, slice_index, arith, ℕ, sym}
use Rattle.ix_lut.specs.Shapes.{input_lines}
use Rattle.ix_placed_luts.proofs.Tying.{line_of, taken_within}
use Rattle.ix_fill_tables.proofs.Unused.{one_more_tied, used_passed}
use Rattle.ix_fill_tables.proofs.Valued.{used_there}
use Rattle.ix_fill_tables.proofs.ties.ties_of.Goals as goal
use Rattle.ix_fill_tables.proofs.ties.ties_of.Goals.{then-not-is_used+in-Some, else-not-is_used}

pub loop-j-preserved : goal.loop-j-preserved
loop-j-preserved c =
    let shape = c.args.shape.now in let j : ℕ = c.loop-j.j in
    let all = c.requires.all in
    let before = c.loop-j-test.true in
    let end = c.loop-j.auto.j-end in
    let count = c.len-j-end.ensures in
    let below : j < length (input_lines shape) = omega (arith, before, end, count, all) in
    let most : length (input_lines shape) ≤ shape.inputs = taken_within shape.inputs shape.lines in
    let few : j < shape.inputs = omega (arith, below, most) in
    let line : ℕ = slice_index shape.lines j in
    let on_line : line < 12 = c.requires.usable.on_lines j few in
    let many : length c.loop-j.ties ≡ 12 = c.loop-j.invariant.many in
    elim c.if-not-is_used.branch [
      | then-not-is_used+in-Some w ↦ rw w.ties-is (record {
        many = length-set c.loop-j.ties line w.in-Some.tie ∙ many;
        tied = one_more_tied c.args.on.now.device.now c.args.on.now.phys.now.nets c.args.site
            c.args.ty c.args.bel c.args.lut_bel.now.input_pins (input_lines shape)
            c.args.used.now c.requires.usable.differ j w.at.result.now line w.in-Some.tie
            c.loop-j.ties (omega (arith, on_line, many)) w.at.ensures
            (line_of shape j below few) w.in-Some.ensures c.loop-j.invariant.tied;
      })
      | else-not-is_used w ↦ rw w.ties-is (record {
        many = many;
        tied = used_passed c.args.on.now.device.now c.args.on.now.phys.now.nets c.args.site
            c.args.ty c.args.bel c.args.lut_bel.now.input_pins (input_lines shape)
            c.args.used.now j c.loop-j.ties
            (used_there c.args.used.now j (sym c.is_used.ensures ∙ w.if-not-is_used.false))
            c.loop-j.invariant.tied;
      })
    ]
