use Rattle.ix_first_fit.specs.Spots.{spot}
use Rattle.ix_first_fit.specs.Taken.{NoneBefore}
use Rattle.ix_first_fit.proofs.fit.first_spot.Given as goal

abbrev pub invariant-loop-site : goal.invariant-loop-site
invariant-loop-site l = NoneBefore l.device l.taken l.ty (spot l.site l.first)
