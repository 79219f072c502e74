use Rattle.std.proofs.Common.{◌≡◌, take}
use Rattle.ix_graph.specs.Pips.{conventional}
use Rattle.ix_graph.proofs.type_pips.conventional.Given as goal

abbrev pub invariant-loop-i : goal.invariant-loop-i
invariant-loop-i l = l.found ≡ conventional (take l.i l.pips)
