-- Marks of the numbers that a list had so far.
use Rattle.std.specs.Prelude.{◌≡◌, ◌<◌, ◌↔◌, ℕ, List, Bool, true, slice_get, Some, length}
use Rattle.ix_second_names.specs.Seconds.{NoneSecond}

pub record AreSeen (names : List ℕ) (marks : List Bool) (count place : ℕ) : Type 0 where
  pub many : length marks ≡ count
  pub each : (name : ℕ) → (slice_get marks name ≡ Some true)
      ↔ ((j : ℕ) × (j < place) × (slice_get names j ≡ Some name))
  pub none : NoneSecond names place
