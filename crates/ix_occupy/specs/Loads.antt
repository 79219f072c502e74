-- What contracts see of an occupancy: for each node how many nets hold it, and at how many ends of
-- rounds it was shared.
use Rattle.std.specs.Prelude.{◌≡◌, ◌≢◌, ℕ, ◌+◌, ◌-◌, ◌<◌, ◌≤◌, Bool, nat_le, min, List, length}
use Rattle.std.specs.Prelude.{slice_index_or, if◌then◌else◌}
use Rattle.std.specs.List.{count_by}
use Rattle.ix_occupy.specs.declared.steps.Step.{Step}
use Rattle.ix_occupy.specs.Steps.{NodeNumber, most_hist, holders, hist}

pub record Load : Type 0 where
  -- how many nets hold the node
  pub holders : ℕ
  -- at how many ends of rounds it was shared
  pub hist : ℕ

-- of a node that was never held, and past the last node
abbrev pub unheld : Load
unheld = record { holders = 0; hist = 0 }

-- how many nets hold a node
unfoldable pub holder_count : List Load → NodeNumber → ℕ
holder_count loads node = (slice_index_or loads node unheld).holders

-- at how many ends of rounds a node was shared
unfoldable pub hist_at : List Load → NodeNumber → ℕ
hist_at loads node = (slice_index_or loads node unheld).hist

-- how many nodes are shared
unfoldable pub shared_count : List Load → ℕ
shared_count loads = count_by (λ load. nat_le 2 load.holders) loads

-- this node has so many holders now, and all else is as before
pub record Recounts (before now : List Load) (node : NodeNumber) (count : ℕ) : Type 0 where
  pub nodes : length now ≡ length before
  pub changed : holder_count now node ≡ count
  pub others : (other : NodeNumber) → other ≢ node
      → holder_count now other ≡ holder_count before other
  pub hist : (other : NodeNumber) → hist_at now other ≡ hist_at before other

-- an end of a round: it counts for each node with two holders or more, and all else is as before
pub record EndsRound (before now : List Load) : Type 0 where
  pub nodes : length now ≡ length before
  pub holders : (node : NodeNumber) → holder_count now node ≡ holder_count before node
  pub shared : (node : NodeNumber) → 2 ≤ holder_count before node
      → hist_at now node ≡ min (hist_at before node + 1) most_hist
  pub others : (node : NodeNumber) → holder_count before node < 2
      → hist_at now node ≡ hist_at before node

-- the least node with two holders or more
pub record IsFirstShared (loads : List Load) (node : NodeNumber) : Type 0 where
  pub inside : node < length loads
  pub shared : 2 ≤ holder_count loads node
  pub first : (other : NodeNumber) → other < node → holder_count loads other < 2

-- the numbers of so many nodes after these steps
pub record IsAfter (steps : List Step) (nodes : ℕ) (loads : List Load) : Type 0 where
  pub all : length loads ≡ nodes
  pub holders : (node : NodeNumber) → holder_count loads node ≡ length (holders steps node)
  pub hist : (node : NodeNumber) → hist_at loads node ≡ hist steps node

-- how many nets but this one hold the node, where `mine` says whether this one does
abbrev pub others_at : List Load → NodeNumber → Bool → ℕ
others_at loads node mine = if mine then holder_count loads node - 1 else holder_count loads node
