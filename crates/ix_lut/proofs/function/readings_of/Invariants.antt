use Rattle.ix_lut.specs.Shapes.{held_by, lut_on}
use Rattle.ix_lut.specs.Readings.{HasRead}
use Rattle.ix_lut.proofs.function.readings_of.Given as goal

abbrev pub invariant-loop-v : goal.invariant-loop-v
invariant-loop-v l = record {
  zeros : HasRead (lut_on l.bel l.inputs) (held_by l.ties) l.bits l.v 0 l.zeros;
  ones : HasRead (lut_on l.bel l.inputs) (held_by l.ties) l.bits l.v 1 l.ones;
}
