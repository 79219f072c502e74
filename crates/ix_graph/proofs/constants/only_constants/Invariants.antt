use Rattle.std.proofs.Common.{◌≡◌, map, take}
use Rattle.ix_graph.specs.Constants.{only_constant}
use Rattle.ix_graph.proofs.constants.only_constants.Given as goal

abbrev pub invariant-loop-i : goal.invariant-loop-i
invariant-loop-i l = l.constants ≡ map (λ m. only_constant m.gnd m.vcc) (take l.i l.marks)
