use Rattle.std.proofs.Common.{◌≡◌, take}
use Rattle.ix_named_twice.specs.Spots.{names_of}
use Rattle.ix_named_twice.proofs.twice.cell_names.Given as goal

abbrev pub invariant-loop-cell : goal.invariant-loop-cell
invariant-loop-cell l = l.names.items ≡ names_of (take l.cell-index l.cells)
