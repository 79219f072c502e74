-- How rows lie one after another in memory, by the places at which they start.
use Rattle.std.specs.Prelude.{◌≡◌, ℕ, ◌+◌, ◌-◌, ◌^◌, ◌<◌, ◌≤◌, List, length, take, slice_index}
use Rattle.std.specs.List.{sum}

-- the rows start one after another, and the last ends with the last of the places, whose numbers
-- have 32 bits
pub record AreStarts (starts : List ℕ) (places : ℕ) : Type 0 where
  pub some : 0 < length starts
  pub rise : (i j : ℕ) → i ≤ j → j < length starts → slice_index starts i ≤ slice_index starts j
  pub last : slice_index starts (length starts - 1) ≡ places
  pub few : places < 2 ^ 32

-- each row is filled up to a place of its own room, which ends where the next row starts
pub record AreEnds (starts ends : List ℕ) : Type 0 where
  pub rows : length starts ≡ length ends + 1
  pub above : (r : ℕ) → r < length ends → slice_index starts r ≤ slice_index ends r
  pub below : (r : ℕ) → r < length ends → slice_index ends r ≤ slice_index starts (r + 1)

-- each row starts behind what the rows before it are to have
pub record AreStartsFor (sizes starts : List ℕ) : Type 0 where
  pub rows : length starts ≡ length sizes + 1
  pub start : (r : ℕ) → r ≤ length sizes → slice_index starts r ≡ sum (take r sizes)
