use Rattle.std.proofs.Common.{◌≡◌, map, take}
use Rattle.ix_graph.proofs.pips.kinds_of.Given as goal

abbrev pub invariant-loop-i : goal.invariant-loop-i
invariant-loop-i l = l.kinds ≡ map (λ t. t.ty) (take l.i l.tiles)
