use Rattle.std.proofs.Common.{◌≡◌, ℕ, List, [], Some, length, slice_get}
use Rattle.ix_lut_places.specs.declared.filling.ElementPlace.{ElementPlace}
use Rattle.ix_lut_places.proofs.filling.empty_rows.Given as goal

abbrev pub invariant-loop : goal.invariant-loop
invariant-loop l = (length l.rows.items ≡ l.counter)
    × ((t : ℕ) (row : List ElementPlace) → slice_get l.rows.items t ≡ Some row → row ≡ [])
