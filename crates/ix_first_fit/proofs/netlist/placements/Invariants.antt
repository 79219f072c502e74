use Rattle.ix_first_fit.proofs.Netlists.{PlacedSoFar}
use Rattle.ix_first_fit.proofs.netlist.placements.Given as goal

abbrev pub invariant-loop-i : goal.invariant-loop-i
invariant-loop-i l = PlacedSoFar l.device l.cells l.spots l.i l.all
