-- Queues as lists of entries, in any order.
use Rattle.std.specs.Prelude.{◌≡◌, ℕ, ◌+◌, ◌<◌, ◌≤◌, ◌⊎◌, List, length, Contains}
use Rattle.std.specs.Ordering.{nat_cmp, on, flip_args, then_cmp}
use Rattle.std.specs.declared.cmp.Ordering.{Ordering}
use Rattle.ix_least.specs.declared.queue.Entry.{Entry}
use Rattle.ix_least.specs.declared.queue.Near.{Near}

-- the order of the heaps
abbrev pub entry_cmp : Entry → Entry → Ordering
entry_cmp = then_cmp (flip_args (on (λ e. e.key) nat_cmp))
    (flip_args (on (λ e. e.dist) nat_cmp))

abbrev pub near_cmp : Near → Near → Ordering
near_cmp = flip_args (on (λ e. e.dist) nat_cmp)

-- the entry of a point whose key is its cost
abbrev pub near_entry : Near → Entry
near_entry near = record { key = near.dist; dist = near.dist; point = near.point }

-- the key and cost come no later than an entry's, keys before costs
abbrev pub Precedes : ℕ → ℕ → Entry → Type 0
Precedes key dist entry = (key < entry.key) ⊎ ((key ≡ entry.key) × (dist ≤ entry.dist))

-- the queue has one entry more
pub record Adds (entry : Entry) (old new : List Entry) : Type 0 where
  pub grows : length new ≡ length old + 1
  pub has : Contains new entry
  pub keeps : (e : Entry) → Contains old e → Contains new e
  pub adds_no_other : (e : Entry) → Contains new e → (e ≡ entry) ⊎ Contains old e

-- an entry that comes no later than the others is taken from the queue
pub record Takes (entry : Entry) (old new : List Entry) : Type 0 where
  pub shrinks : length new + 1 ≡ length old
  pub had : Contains old entry
  pub first : (e : Entry) → Contains old e → Precedes entry.key entry.dist e
  pub keeps : (e : Entry) → Contains old e → (e ≡ entry) ⊎ Contains new e
  pub adds_none : (e : Entry) → Contains new e → Contains old e

-- such an entry of a point is taken
pub record TakesPoint (point : ℕ) (old new : List Entry) : Type 0 where
  pub key : ℕ
  pub dist : ℕ
  pub takes : Takes (record { key = key; dist = dist; point = point }) old new
