use Rattle.ix_lut.specs.Shapes.{held_by}
use Rattle.ix_lut.proofs.Words.{IsWordBelow}
use Rattle.ix_lut.proofs.agreeing.agreeing.Given as goal

abbrev pub invariant-loop-j : goal.invariant-loop-j
invariant-loop-j l = IsWordBelow l.bel.lines l.places (held_by l.held) l.bel.inputs l.j l.word
