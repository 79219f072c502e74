use Rattle.std.proofs.Common.{◌≡◌, ℕ, take, unwrap_or}
use Rattle.ix_first_fit.specs.ByTypes.{of_type}
use Rattle.ix_first_fit.specs.Spots.{cells_of}
use Rattle.ix_first_fit.proofs.counts.cell_counts.Given as goal

abbrev pub invariant-loop-i : goal.invariant-loop-i
invariant-loop-i l = (ty : ℕ) → unwrap_or (of_type l.counts ty) 0 ≡ cells_of ty (take l.i l.cells)
