use Rattle.ix_walk.specs.Firsts.{AllFit}
use Rattle.ix_named_there.specs.Parts.{PlacementNamedAt}
use Rattle.ix_named_there.proofs.placements.first_placement.Given as goal

abbrev pub invariant-loop-i : goal.invariant-loop-i
invariant-loop-i l = AllFit (PlacementNamedAt l.device) l.placements l.i
