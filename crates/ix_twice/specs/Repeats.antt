-- Rows of one bit, one behind another; and the least of numbers.
use Rattle.std.specs.Prelude.{◌≡◌, ◌-◌, ◌<◌, ◌≤◌, ℕ, Bool, true, List, slice_get, Option, Some}
use Rattle.std.specs.Prelude.{None, nat_eq, nat_le, ◌&&◌, MatchOption, if◌then◌else◌}
use Rattle.ix_hierarchy.specs.declared.row.Row.{Row}

-- two rows are of one bit of one owner
abbrev pub is_same_bit : Row → Row → Bool
is_same_bit a b = nat_eq a.instance b.instance && (nat_eq a.port b.port && nat_eq a.index b.index)

-- the row at this place is of the bit of the one before it, and names this net
pub record IsRepeatAt (rows : List Row) (place net : ℕ) : Type 0 where
  pub row : Row
  pub row_is : slice_get rows place ≡ Some row
  pub other : Row
  pub other_is : slice_get rows (place - 1) ≡ Some other
  pub same : is_same_bit other row ≡ true
  pub net_is : row.net ≡ net

-- some row from `start` to `end` is, the first one aside
pub record IsRepeat (rows : List Row) (start end net : ℕ) : Type 0 where
  pub place : ℕ
  pub from : start < place
  pub to : place < end
  pub repeat : IsRepeatAt rows place net

-- the least number with a property; none exactly where there is no such number
abbrev pub IsLeast : (ℕ → Type 0) → Option ℕ → Type 0
IsLeast P found = MatchOption found ((n : ℕ) → ¬ P n)
    (λ n. P n × ((m : ℕ) → P m → n ≤ m))

-- the lesser of two numbers that may be there
abbrev pub least_of : Option ℕ → Option ℕ → Option ℕ
least_of None b = b
least_of (Some x) None = Some x
least_of (Some x) (Some y) = if nat_le x y then Some x else Some y
