-- Rows that lie one after another, by the places at which they begin.
use Rattle.std.specs.Prelude.{◌<◌, ◌≤◌, ◌+◌, ◌-◌, ◌^◌, ℕ, List, length, map, slice_index}
use Rattle.std.specs.Prelude.{slice_range}
use Rattle.std.specs.List.{range_with_len}

-- a row, which ends where the next one begins
abbrev pub row_at : {A : Type 0} → List ℕ → List A → ℕ → List A
row_at starts items n = slice_range items (slice_index starts n) (slice_index starts (n + 1))

-- all rows: one less than there are places
unfoldable pub rows_of : {A : Type 0} → List ℕ → List A → List (List A)
rows_of starts items = map (row_at starts items) (range_with_len 0 (length starts - 1))

-- the rows begin one after another, within so many items
pub record AreStarts (starts : List ℕ) (items : ℕ) : Type 0 where
  pub some : 0 < length starts
  pub rise : (n : ℕ) → n + 1 < length starts → slice_index starts n ≤ slice_index starts (n + 1)
  pub within : (n : ℕ) → n < length starts → slice_index starts n ≤ items

-- the rows of pairs lie so, and the numbers have 32 bits
pub record AreLaid {A : Type 0} (starts : List ℕ) (items : List A) (count : ℕ) : Type 0 where
  pub starts_are : AreStarts starts (length items)
  pub few : count < 2 ^ 32
