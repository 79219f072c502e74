use Rattle.ix_lut.specs.Shapes.{held_by}
use Rattle.ix_lut.proofs.Tying.{TiesBelow}
use Rattle.ix_lut.proofs.forcing.least_ties.Given as goal

abbrev pub invariant-loop-line : goal.invariant-loop-line
invariant-loop-line l = TiesBelow l.luts l.tieable (held_by l.fn.held) (held_by l.ties) l.line
