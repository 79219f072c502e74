use Rattle.std.proofs.Common.{◌≡◌, ◌<◌, ◌≤◌, ◌∙◌, length, length-set, slice_index, arith, ℕ}
use Rattle.ix_lut.specs.Shapes.{input_lines}
use Rattle.ix_placed_luts.proofs.Tying.{one_more_tied, line_of, taken_within}
use Rattle.ix_placed_luts.proofs.ties.ties_of.Goals as goal

pub loop-j-preserved : goal.loop-j-preserved
loop-j-preserved c =
    let shape = c.args.shape.now in let j = c.loop-j.j in
    let all = c.requires.all in
    let below : j < length (input_lines shape) =
    omega (arith, c.loop-j-test.true, c.loop-j.auto.j-end, c.len-j-end.ensures, all) in
    let most : length (input_lines shape) ≤ shape.inputs = taken_within shape.inputs shape.lines in
    let few : j < shape.inputs = omega (arith, below, most) in
    let line : ℕ = slice_index shape.lines j in
    let on_line : line < 12 = c.requires.usable.on_lines j few in
    let many : length c.loop-j.ties ≡ 12 = c.loop-j.invariant.many in
    record {
      many = length-set c.loop-j.ties line c.tie_of_pin.result ∙ many;
      tied = one_more_tied c.args.on.now.device.now c.args.on.now.phys.now.nets c.args.on.now.site
          c.args.on.now.ty c.args.bel c.args.lut_bel.now.input_pins (input_lines shape)
          c.requires.usable.differ j c.at.result.now line c.tie_of_pin.result c.loop-j.ties
          (omega (arith, on_line, many)) c.at.ensures (line_of shape j below few)
          c.tie_of_pin.ensures c.loop-j.invariant.tied;
    }
