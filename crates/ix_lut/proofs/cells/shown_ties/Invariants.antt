use Rattle.ix_lut.proofs.Showing.{Shows}
use Rattle.ix_lut.proofs.cells.shown_ties.Given as goal

abbrev pub invariant-loop-line : goal.invariant-loop-line
invariant-loop-line l = Shows l.tieable l.held l.line l.ties
