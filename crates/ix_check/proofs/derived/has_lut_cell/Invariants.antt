use Rattle.std.proofs.Common.{◌≡◌, ℕ, ◌<◌}
use Rattle.std.specs.Prelude.{slice_get, Some, IsSome}
use Rattle.ix_legal.specs.Sites.{lut_cell_of}
use Rattle.ix_rec.specs.declared.phys.CellPlacement.{CellPlacement}
use Rattle.ix_check.proofs.derived.has_lut_cell.Given as goal

abbrev pub invariant-loop-k : goal.invariant-loop-k
invariant-loop-k l = (j : ℕ) (placement : CellPlacement) → j < l.k
    → slice_get l.phys.placements j ≡ Some placement → ¬ IsSome (lut_cell_of l.device placement.ty)
