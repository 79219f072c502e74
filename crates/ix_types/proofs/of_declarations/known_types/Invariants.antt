use Rattle.std.proofs.Common.{take}
use Rattle.ix_types.specs.Known.{HasTypes}
use Rattle.ix_types.proofs.of_declarations.known_types.Given as goal

abbrev pub invariant-loop-i : goal.invariant-loop-i
invariant-loop-i l = HasTypes l.known (take l.i l.rec.cell_bel_map)
