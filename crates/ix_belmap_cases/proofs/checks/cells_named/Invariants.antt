use Rattle.std.proofs.Common.{◌≡◌, ◌<◌, ℕ, Some, slice_get}
use Rattle.ix_rec.specs.declared.flow.FlatCell.{FlatCell}
use Rattle.ix_belmap_cases.proofs.checks.cells_named.Given as goal

abbrev pub invariant-loop-i : goal.invariant-loop-i
invariant-loop-i l =
    (q : ℕ) (cell : FlatCell) → q < l.i → slice_get l.cells q ≡ Some cell
    → (cell.name < l.names) × (cell.ty < l.names)
