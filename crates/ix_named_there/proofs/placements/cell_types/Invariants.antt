use Rattle.std.proofs.Common.{take}
use Rattle.ix_named_there.specs.Parts.{AreCellTypes}
use Rattle.ix_named_there.proofs.placements.cell_types.Given as goal

abbrev pub invariant-loop-i : goal.invariant-loop-i
invariant-loop-i l = AreCellTypes (take l.i l.listed) l.count l.types
