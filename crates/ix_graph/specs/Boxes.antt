-- The boxes of places, each a row and a column.
use Rattle.std.specs.Prelude.{◌≡◌, ℕ, ◌+◌, ◌-◌, ◌≤◌, max, min, List, [], ◌∷◌, ◌++◌, length, map}
use Rattle.std.specs.Prelude.{slice_get, nat_eq, Option, Some, None}
use Rattle.std.specs.List.{fold, filter}
use Rattle.ix_graph.specs.declared.spans.Extent.{Extent}
use Rattle.ix_graph.specs.declared.spans.TileBox.{TileBox}

-- the least and the greatest of some numbers, of which this is the first
abbrev pub extent_of : ℕ → List ℕ → Extent
extent_of x xs = record { least = fold min x xs; greatest = fold max x xs }

-- the box of some places; no places have none
abbrev pub box_of : List (ℕ × ℕ) → Option TileBox
box_of [] = None
box_of (p ∷ ps) = Some (record {
  rows = extent_of p.0 (map (λ q. q.0) ps);
  columns = extent_of p.1 (map (λ q. q.1) ps);
})

-- the greatest less the least
abbrev pub length_of : Extent → ℕ
length_of e = e.greatest - e.least

-- half the perimeter of a box; of none it is 0
abbrev pub span_of_box : Option TileBox → ℕ
span_of_box None = 0
span_of_box (Some b) = length_of b.rows + length_of b.columns

-- the least is no more than the greatest
abbrev pub IsExtent : Extent → Type 0
IsExtent e = e.least ≤ e.greatest

abbrev pub IsBox : Option TileBox → Type 0
IsBox None = Unit {0}
IsBox (Some b) = IsExtent b.rows × IsExtent b.columns

-- The boxes of nodes with one place more for each time that a node stands in the list.
pub record AreWidened (place : ℕ × ℕ) (nodes : List ℕ) (old new : List (Option TileBox)) : Type
    0 where
  pub count : length new ≡ length old
  pub each : (n : ℕ) (places : List (ℕ × ℕ)) → slice_get old n ≡ Some (box_of places)
      → slice_get new n ≡ Some (box_of (places
      ++ map (λ _. place) (filter (λ m. nat_eq m n) nodes)))
