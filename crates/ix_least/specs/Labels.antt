-- What a search knows of each point, as a list by point.
use Rattle.std.specs.Prelude.{◌≡◌, ℕ, ◌+◌, true, false, List, [], ◌∷◌, Option, Some, None}
use Rattle.std.specs.Prelude.{slice_get, slice_set, nat_eq, nat_lt, if◌then◌else◌}
use Rattle.ix_least.specs.declared.labels.Label.{Label}
use Rattle.ix_least.specs.declared.labels.Slot.{Slot}

-- what a slot tells in this search
unfoldable pub label_in : ℕ → Slot → Option Label
label_in search slot =
    if nat_eq slot.search search
    then Some (record {
      dist = slot.dist;
      edge = slot.edge;
      from = slot.from;
      settled =
          slot.settled;
    })
    else None

-- the point was reached, with this label
abbrev pub IsKnown : List (Option Label) → ℕ → Label → Type 0
IsKnown labels point label = slice_get labels point ≡ Some (Some label)

-- a point that was reached and not settled is settled
pub record Settles (point dist : ℕ) (old new : List (Option Label)) : Type 0 where
  pub label : Label
  pub known : IsKnown old point label
  pub unsettled : label.settled ≡ false
  pub dist_is : label.dist ≡ dist
  pub new_is : new ≡ slice_set old point (Some (record label { settled = true }))

-- what the points weigh together that aren't settled, the list's first point having this number
unfoldable pub open_weight : (ℕ → ℕ) → ℕ → List (Option Label) → ℕ
open_weight weight point [] = 0
open_weight weight point (None ∷ labels) = weight point + open_weight weight (point + 1) labels
open_weight weight point (Some label ∷ labels) =
    (if label.settled then 0 else weight point) + open_weight weight (point + 1) labels

-- how many points are labelled with more than this cost
unfoldable pub count_above : ℕ → List (Option Label) → ℕ
count_above dist [] = 0
count_above dist (None ∷ labels) = count_above dist labels
count_above dist (Some label ∷ labels) = (if nat_lt dist label.dist then 1 else 0) + count_above
    dist labels
