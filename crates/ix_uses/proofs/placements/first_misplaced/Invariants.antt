use Rattle.std.proofs.Common.{length}
use Rattle.ix_uses.specs.Fitting.{ArePlaced}
use Rattle.ix_uses.proofs.placements.first_misplaced.Given as goal

abbrev pub invariant-loop-i : goal.invariant-loop-i
invariant-loop-i l = ArePlaced l.device l.phys (length l.fn.cells) l.i l.cells l.bels
