-- What an occupancy keeps.
use Rattle.std.specs.Prelude.{◌≡◌, ℕ, ◌+◌, ◌^◌, ◌<◌, ◌≤◌, true, false, nat_le, min, List, length}
use Rattle.std.specs.Prelude.{slice_index_or, if◌then◌else◌, IfNone, IfSome, Option, Some, None}
use Rattle.std.specs.Prelude.{◌⊎◌}
use Rattle.std.specs.List.{count_by}
use Rattle.ix_occupy.specs.declared.loads.NodeLoad.{NodeLoad}
use Rattle.ix_occupy.specs.Steps.{NodeNumber, most_hist, times}
use Rattle.ix_occupy.specs.Loads.{Load}

-- what contracts see of what is kept of a node
abbrev pub load_of : NodeLoad → Load
load_of load = record { holders = load.holders; hist = load.hist }

-- of a node that was never claimed
abbrev pub blank : NodeLoad
blank = record { holders = 0; hist = 0; touched = false }

-- what is kept of a node
abbrev pub kept_at : List NodeLoad → NodeNumber → NodeLoad
kept_at loads node = slice_index_or loads node blank

-- what is kept of a node after the end of a round
abbrev pub at_end : NodeLoad → NodeLoad
at_end load =
    if nat_le 2 load.holders then record load { hist = min (load.hist + 1) most_hist } else load

-- the touched nodes stand once in their list, which has room for all, and only they have holders
pub record IsKept (loads : List NodeLoad) (touched : List NodeNumber)
    (capacity sharing : ℕ) : Type 0 where
  pub few : length loads < 2 ^ 32
  pub room : length loads ≤ capacity
  pub counted : length touched ≡ count_by (λ load. load.touched) loads
  pub once : (node : NodeNumber) → times node touched
      ≡ (if (kept_at loads node).touched then 1 else 0)
  pub held : (node : NodeNumber) → 0 < (kept_at loads node).holders
      → (kept_at loads node).touched ≡ true
  pub shared : sharing ≡ count_by (λ load. nat_le 2 load.holders) loads

-- the end of a round was counted at these nodes, and nowhere else
pub record EndsAt (before now : List NodeLoad) (ended : List NodeNumber) : Type 0 where
  pub nodes : length now ≡ length before
  pub here : (node : NodeNumber) → 0 < times node ended
      → kept_at now node ≡ at_end (kept_at before node)
  pub others : (node : NodeNumber) → times node ended ≡ 0 → kept_at now node ≡ kept_at before node

-- the least shared node of a list, None where there is none
pub record IsLeastShared (loads : List NodeLoad) (nodes : List NodeNumber)
    (found : Option NodeNumber) : Type 0 where
  pub none : IfNone found ((node : NodeNumber) → 0 < times node nodes
      → (kept_at loads node).holders < 2)
  pub shared : IfSome found (λ first. 2 ≤ (kept_at loads first).holders)
  pub least : IfSome found (λ first. (node : NodeNumber) → 0 < times node nodes
      → 2 ≤ (kept_at loads node).holders → first ≤ node)

-- the lesser of two nodes
pub record IsLesserOf (before node least : NodeNumber) : Type 0 where
  pub one : (least ≡ before) ⊎ (least ≡ node)
  pub not_above_before : least ≤ before
  pub not_above_node : least ≤ node

-- the lesser of a node and the one that was found before, if there was one
abbrev pub IsLesser : Option NodeNumber → NodeNumber → NodeNumber → Type 0
IsLesser None node least = least ≡ node
IsLesser (Some before) node least = IsLesserOf before node least
