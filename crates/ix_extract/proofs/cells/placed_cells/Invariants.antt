use Rattle.std.proofs.Common.{◌≡◌, map, take}
use Rattle.ix_extract.specs.Extracted.{cell_of}
use Rattle.ix_extract.proofs.cells.placed_cells.Given as goal

abbrev pub invariant-loop-i : goal.invariant-loop-i
invariant-loop-i l = l.cells ≡ map cell_of (take l.i l.phys.placements)
