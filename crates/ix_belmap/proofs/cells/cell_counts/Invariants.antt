use Rattle.std.proofs.Common.{◌≡◌, ℕ, take, unwrap_or}
use Rattle.ix_belmap.specs.Counts.{cells_of_type}
use Rattle.ix_belmap.specs.Sites.{of_type}
use Rattle.ix_belmap.proofs.cells.cell_counts.Given as goal

abbrev pub invariant-loop-i : goal.invariant-loop-i
invariant-loop-i l = (ty : ℕ) → unwrap_or (of_type l.counts ty) 0 ≡ cells_of_type ty
    (take l.i l.cells)
