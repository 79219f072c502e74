use Rattle.std.proofs.Common.{◌∙◌, arith}
use Rattle.std.proofs.lemmas.List.{length-set}
use Rattle.ix_lut.specs.Shapes.{input_lines}
use Rattle.ix_lut.proofs.Laying.{places_next}
use Rattle.ix_lut.proofs.lay.places_for.Goals as goal

pub loop-i-preserved : goal.loop-i-preserved
loop-i-preserved c = record {
  long = length-set c.loop-i.places c.loop-i.i c.place_among.result ∙ c.loop-i.invariant.long;
  places = places_next (input_lines c.args.bel.now) c.args.chosen.now c.loop-i.places c.loop-i.i c.place_among.result
      (omega (arith, c.loop-i.invariant.long, c.loop-i-test.true, c.requires.few)) c.place_among.ensures c.loop-i.invariant.places;
}
