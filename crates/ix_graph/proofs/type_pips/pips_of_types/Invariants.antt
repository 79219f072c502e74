use Rattle.std.proofs.Common.{◌≡◌, map, take}
use Rattle.ix_graph.specs.Pips.{conventional}
use Rattle.ix_graph.proofs.type_pips.pips_of_types.Given as goal

abbrev pub invariant-loop-i : goal.invariant-loop-i
invariant-loop-i l = l.all ≡ map (λ ty. conventional ty.pips) (take l.i l.types)
