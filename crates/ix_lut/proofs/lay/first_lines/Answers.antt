use Rattle.std.proofs.Common.{◌<◌, true, length, ◌∙◌, arith}
use Rattle.std.proofs.lemmas.List.{length-set}
use Rattle.ix_lut.proofs.Laying.{marked_only, marked_every}
use Rattle.ix_lut.proofs.lay.first_lines.Goals as goal

pub loop-line-preserved : goal.loop-line-preserved
loop-line-preserved c =
    let inside : c.loop-line.line < length c.loop-line.lines = omega (arith, c.loop-line.invariant.long, c.loop-line-test.true, c.requires) in
    record {
      long = length-set c.loop-line.lines c.loop-line.line true ∙ c.loop-line.invariant.long;
      only = marked_only c.loop-line.lines c.loop-line.line c.loop-line.invariant.only;
      every = marked_every c.loop-line.lines c.loop-line.line inside c.loop-line.invariant.every;
    }
