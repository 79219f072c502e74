use Rattle.ix_first_fit.specs.ByTypes.{of_type}
use Rattle.ix_first_fit.proofs.Fitting.{FitsSoFar}
use Rattle.ix_first_fit.proofs.fit.fit.Given as goal

abbrev pub invariant-loop-i : goal.invariant-loop-i
invariant-loop-i l = FitsSoFar l.device l.cells l.i l.places (λ q. of_type l.last q)
