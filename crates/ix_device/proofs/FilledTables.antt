-- Tables that are filled number by number.
use Rattle.std.proofs.Common.{◌≡◌, ◌≤◌, ◌<◌, ℕ, Option, Some, None}
use Rattle.ix_first.specs.First.{value_of}
use Rattle.ix_first.specs.declared.by_id.FirstById.{FirstById}

-- of a table of the numbers below n, those below i have their values
pub record IsFilled {V : Type 0} (n : ℕ) (found : ℕ → Option V) (i : ℕ) (table : FirstById V) : Type 0 where
  pub below : (j : ℕ) → j < n → j < i → value_of table j ≡ Some (found j)
  pub above : (j : ℕ) → j < n → i ≤ j → value_of table j ≡ Some None
