-- Sets of joined numbers, as a table of the number above each one.
use Rattle.std.specs.Prelude.{◌≡◌, ◌<◌, ◌≤◌, ◌⊎◌, ℕ, List, length, slice_index}

-- each number stands under a lesser one, or under itself
abbrev pub AreUp : List ℕ → Type 0
AreUp above = (k : ℕ) → k < length above → slice_index above k ≤ k

-- the root of each number is the one at the end of the way up
pub record IsForest (above : List ℕ) (root : ℕ → ℕ) : Type 0 where
  pub up : (k : ℕ) → k < length above → root (slice_index above k) ≡ root k
  pub low : (k : ℕ) → root k ≤ k
  pub top : (k : ℕ) → k < length above → slice_index above (root k) ≡ root k
  pub own : (k : ℕ) → k < length above → slice_index above k ≡ k → root k ≡ k

-- the sets of two numbers are joined, and no others
pub record Joins (before now : ℕ → ℕ) (one other : ℕ) : Type 0 where
  pub joined : now one ≡ now other
  pub keeps : (j k : ℕ) → before j ≡ before k → now j ≡ now k
  pub only : (j k : ℕ) → now j ≡ now k → (before j ≡ before k)
      ⊎ (((before j ≡ before one) × (before k ≡ before other))
      ⊎ ((before j ≡ before other) × (before k ≡ before one)))

-- the changed table has the same roots
abbrev pub KeepsRoots : (before now : List ℕ) → Type 0
KeepsRoots before now = (root : ℕ → ℕ) → IsForest before root → IsForest now root
