-- What a search knows of the walks from the sources while it goes on.
use Rattle.std.specs.Prelude.{◌≡◌, ◌≢◌, ℕ, ◌+◌, ◌-◌, ◌*◌, ◌^◌, ◌<◌, ◌≤◌, ◌⊎◌, true, false, List}
use Rattle.std.specs.Prelude.{length, min, slice_set, take, Contains, Option, Some}
use Rattle.ix_least.specs.declared.labels.Label.{Label}
use Rattle.ix_least.specs.declared.queue.Entry.{Entry}
use Rattle.ix_least.specs.Labels.{IsKnown, open_weight}
use Rattle.ix_least.specs.Queue.{Adds, Precedes}
use Rattle.ix_least.specs.Walks.{Question, IsStep, HasWalk, IsDist, IsLastEdge, asked}

-- the key of a point that is reached at a cost: with the bound on the way that is left, as far as
-- numbers go
abbrev pub key_of : (ℕ → ℕ) → ℕ → ℕ → ℕ
key_of bounds point dist = min (dist + bounds point) (2 ^ 64 - 1)

-- the label is no worse than that of another walk: it costs less, or as much by an edge whose
-- number is no greater
abbrev pub IsNoWorse : Label → ℕ → ℕ → Type 0
IsNoWorse label dist edge = (label.dist < dist) ⊎ ((label.dist ≡ dist) × (label.edge ≤ edge))

-- the label is one of a walk's last edge, which leads from a settled point
pub record IsEntered (q : Question) (labels : List (Option Label)) (point : ℕ)
    (label : Label) : Type 0 where
  pub cost : ℕ
  pub last : Label
  pub known : IsKnown labels label.from last
  pub settled : last.settled ≡ true
  pub step : IsStep q label.from label.edge point cost
  pub some : 1 ≤ cost
  pub dist : label.dist ≡ last.dist + cost

-- the point is a source, or was entered
abbrev pub IsReached : Question → List (Option Label) → ℕ → Label → Type 0
IsReached q labels point label =
    (Contains q.sources point × (label.dist ≡ 0)) ⊎ IsEntered q labels point label

-- a label of a point was offered, and the old one is as good
pub record IsKept (point : ℕ) (label : Label) (old new : List (Option Label))
    (before now : List Entry) : Type 0 where
  pub held : Label
  pub known : IsKnown old point held
  pub no_worse : IsNoWorse held label.dist label.edge
  pub labels : new ≡ old
  pub queue : now ≡ before

-- a label was offered, which ties the old one by a lower edge
pub record IsRetied (point : ℕ) (label : Label) (old new : List (Option Label))
    (before now : List Entry) : Type 0 where
  pub held : Label
  pub known : IsKnown old point held
  pub tied : label.dist ≡ held.dist
  pub lower : label.edge ≤ held.edge
  pub labels : new ≡ slice_set old point (Some label)
  pub queue : now ≡ before

-- a label was offered, which costs less than the old one, or there is none
pub record IsLowered (key : ℕ → ℕ → ℕ) (point : ℕ) (label : Label) (old new : List (Option Label))
    (before now : List Entry) : Type 0 where
  pub less : (held : Label) → IsKnown old point held → label.dist < held.dist
  pub labels : new ≡ slice_set old point (Some label)
  pub queue : Adds (record { key = key point label.dist; dist = label.dist; point = point }) before
      now

-- what a label that is offered makes of the labels and the queue
abbrev pub IsOffered : (ℕ → ℕ → ℕ) → ℕ → Label → List (Option Label) → List (Option Label) →
    List Entry → List Entry → Type 0
IsOffered key point label old new before now =
    IsKept point label old new before now ⊎ (IsRetied point label old new before now
    ⊎ IsLowered key point label old new before now)

-- the edge from a point of this cost was gone over: the point that it enters has a label that is no
-- worse
abbrev pub IsGoneOver : Question → List (Option Label) → ℕ → ℕ → ℕ → Type 0
IsGoneOver q labels dist edge to =
    (cost : ℕ) → q.costs to ≡ Some cost →
    (1 ≤ cost) × ((label : Label) × IsKnown labels to label × IsNoWorse label (dist + cost) edge)

-- the edges that were gone over: all those out of settled points
abbrev pub all_edges : Question → ℕ → ℕ × ℕ → Type 0
all_edges q point edge = Contains (q.edges point) edge

-- all but those out of one point, of which only so many were
abbrev pub edges_but : Question → ℕ → ℕ → ℕ → ℕ × ℕ → Type 0
edges_but q at count point edge =
    Contains (q.edges point) edge × (point ≡ at → Contains (take count (q.edges at)) edge)

-- what is known of a settled point
pub record IsLeft (q : Question) (key : ℕ → ℕ → ℕ) (target : ℕ) (due : ℕ → ℕ × ℕ → Type 0)
    (labels : List (Option Label)) (queue : List Entry) (point : ℕ) (label : Label) : Type 0 where
  pub no_target : point ≢ target
  pub first : (entry : Entry) → Contains queue entry → Precedes (key point label.dist) label.dist
      entry
  pub gone_over : (edge to : ℕ) → due point (edge, to) → IsGoneOver q labels label.dist edge to

-- what an entry of the queue tells
pub record IsQueued (key : ℕ → ℕ → ℕ) (labels : List (Option Label)) (entry : Entry) : Type 0 where
  pub key_is : entry.key ≡ key entry.point entry.dist
  pub label : Label
  pub known : IsKnown labels entry.point label
  pub no_less : label.dist ≤ entry.dist

-- an entry of the point at its label's cost
pub record HasEntry (queue : List Entry) (point dist : ℕ) : Type 0 where
  pub entry : Entry
  pub queued : Contains queue entry
  pub point_is : entry.point ≡ point
  pub dist_is : entry.dist ≡ dist

-- how many points aren't settled
abbrev pub open_count : List (Option Label) → ℕ
open_count labels = open_weight (λ _. 1) 0 labels

-- what holds of the labels and the queue as long as the target isn't settled
pub record IsSettling (q : Question) (key : ℕ → ℕ → ℕ) (target : ℕ) (due : ℕ → ℕ × ℕ → Type 0)
    (labels : List (Option Label)) (queue : List Entry) : Type 0 where
  pub walks : (point : ℕ) (label : Label) → IsKnown labels point label → HasWalk q point label.dist
  pub reached : (point : ℕ) (label : Label) → IsKnown labels point label →
      IsReached q labels point label
  pub bounded : (point : ℕ) (label : Label) → IsKnown labels point label →
      label.dist + 2 ^ 32 * open_count labels ≤ 2 ^ 32 * length labels
  pub unsettled : (point : ℕ) (label : Label) → IsKnown labels point label → label.settled ≡ false →
      HasEntry queue point label.dist
  pub left : (point : ℕ) (label : Label) → IsKnown labels point label → label.settled ≡ true →
      IsLeft q key target due labels queue point label
  pub entries : (entry : Entry) → Contains queue entry → IsQueued key labels entry

-- each of the sources was reached at no cost
abbrev pub HasSources : List ℕ → List (Option Label) → Type 0
HasSources sources labels =
    (source : ℕ) → Contains sources source → (label : Label) × IsKnown labels source label
    × (label.dist ≡ 0)

-- what holds while the edges out of the point that was settled last are gone over
pub record IsLeaving (q : Question) (key : ℕ → ℕ → ℕ) (target at dist count : ℕ)
    (labels : List (Option Label)) (queue : List Entry) : Type 0 where
  pub settling : IsSettling q key target (edges_but q at count) labels queue
  pub sources : HasSources q.sources labels
  pub label : Label
  pub known : IsKnown labels at label
  pub settled : label.settled ≡ true
  pub dist_is : label.dist ≡ dist
  pub latest : (point : ℕ) (other : Label) → IsKnown labels point other → other.settled ≡ true →
      (key point other.dist < key at dist) ⊎ ((key point other.dist ≡ key at dist)
      × (other.dist ≤ dist))
  pub room : dist + 2 ^ 32 + 2 ^ 32 * open_count labels ≤ 2 ^ 32 * length labels

-- the key never falls from a cost to a greater one, nor along a step
pub record IsRising (q : Question) (key : ℕ → ℕ → ℕ) : Type 0 where
  pub with_cost : (point dist more : ℕ) → dist ≤ more → key point dist ≤ key point more
  pub with_step : (from edge to cost dist : ℕ) → IsStep q from edge to cost →
      key from dist ≤ key to (dist + cost)

-- the label's cost is the least, and its edge is the one by which the least path enters the point
pub record IsFinal (q : Question) (labels : List (Option Label)) (point : ℕ)
    (label : Label) : Type 0 where
  pub dist : IsDist q point label.dist
  pub source : label.dist ≡ 0 → Contains q.sources point
  pub last_edge : 0 < label.dist → IsLastEdge q label.from label.edge point
  pub last : 0 < label.dist → IsEntered q labels point label

-- the target was reached, and its label and those of the settled points are final
pub record IsFound (q : Question) (target : ℕ) (labels : List (Option Label)) : Type 0 where
  pub label : Label
  pub known : IsKnown labels target label
  pub target_final : IsFinal q labels target label
  pub final : (point : ℕ) (other : Label) → IsKnown labels point other → other.settled ≡ true →
      IsFinal q labels point other

-- a search from these sources was started, whatever the edges, the costs and the target
pub record IsStarted (sources : List ℕ) (key : ℕ → ℕ → ℕ) (labels : List (Option Label))
    (queue : List Entry) : Type 0 where
  pub sources_known : HasSources sources labels
  pub settling : (points : ℕ) (edges : ℕ → List (ℕ × ℕ)) (costs : ℕ → Option ℕ) (target : ℕ) →
      IsSettling (asked points edges costs sources) key target
      (all_edges (asked points edges costs sources)) labels queue

-- where a point was settled, and none of the edges out of it gone over, so many were now, whatever
-- the sources and the target
pub record LeavesUpTo (points : ℕ) (edges : ℕ → List (ℕ × ℕ)) (costs : ℕ → Option ℕ)
    (key : ℕ → ℕ → ℕ) (at dist count : ℕ) (old new : List (Option Label))
    (before now : List Entry) : Type 0 where
  pub leaving : (sources : List ℕ) (target : ℕ) → IsRising (asked points edges costs sources) key →
      IsLeaving (asked points edges costs sources) key target at dist 0 old before →
      IsLeaving (asked points edges costs sources) key target at dist count new now
  pub weights : (sources : List ℕ) (target : ℕ) → IsRising (asked points edges costs sources) key →
      IsLeaving (asked points edges costs sources) key target at dist 0 old before →
      (w : ℕ → ℕ) → open_weight w 0 new ≡ open_weight w 0 old
