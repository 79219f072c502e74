use Rattle.ix_lut.specs.Shapes.{held_by}
use Rattle.ix_lut.specs.Forcing.{HasForced}
use Rattle.ix_lut.proofs.forcing.forced_bits.Given as goal

abbrev pub invariant-loop-lut : goal.invariant-loop-lut
invariant-loop-lut l = record {
  zeros : HasForced l.lut-index l.luts (held_by l.held) 0 l.zeros;
  ones : HasForced l.lut-index l.luts (held_by l.held) 1 l.ones;
}
