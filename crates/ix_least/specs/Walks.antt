-- Walks over the edges of a graph whose points cost something to enter, and the least of them.
use Rattle.std.specs.Prelude.{◌≡◌, ℕ, ◌+◌, ◌<◌, ◌≤◌, List, [], ◌∷◌, Contains, Option, Some}

-- what a search is asked, but for its target
pub record Question : Type 0 where
  -- how many points there are: their numbers are those below it
  pub points : ℕ
  -- the edges out of a point: of each its number, and the point that it enters
  pub edges : ℕ → List (ℕ × ℕ)
  -- what it costs to enter a point, where it may be entered
  pub costs : ℕ → Option ℕ
  -- the points from which walks start
  pub sources : List ℕ

-- the edge of this number leads from one of the points to another, which may be entered at this
-- cost
pub record IsStep (q : Question) (from edge to cost : ℕ) : Type 0 where
  pub inside : from < q.points
  pub leads : Contains (q.edges from) (edge, to)
  pub costs : q.costs to ≡ Some cost

-- each edge begins where the last one ended, and the cost is the sum of the costs of the points
-- entered
unfoldable pub IsWalk : Question → ℕ → List (ℕ × ℕ) → ℕ → ℕ → Type 0
IsWalk q from [] to cost = (from ≡ to) × (cost ≡ 0)
IsWalk q from (edge ∷ edges) to cost =
    (first : ℕ) × (others : ℕ) × IsStep q from edge.0 edge.1 first × IsWalk q edge.1 edges to others
    × (cost ≡ first + others)

-- a walk from a source to the point costs so much
pub record HasWalk (q : Question) (to cost : ℕ) : Type 0 where
  pub source : ℕ
  pub edges : List (ℕ × ℕ)
  pub starts : Contains q.sources source
  pub walk : IsWalk q source edges to cost

-- the least cost of a walk from a source to the point
pub record IsDist (q : Question) (to dist : ℕ) : Type 0 where
  pub walk : HasWalk q to dist
  pub least : (cost : ℕ) → HasWalk q to cost → dist ≤ cost

-- the edge ends a walk of least cost: dist(from) + cost(to) = dist(to)
pub record IsTied (q : Question) (from edge to : ℕ) : Type 0 where
  pub dist : ℕ
  pub cost : ℕ
  pub step : IsStep q from edge to cost
  pub from_dist : IsDist q from dist
  pub to_dist : IsDist q to (dist + cost)

-- the edge by which the least path enters a point that is no source: of those that tie the one with
-- the least number
pub record IsLastEdge (q : Question) (from edge to : ℕ) : Type 0 where
  pub no_source : ¬ Contains q.sources to
  pub tied : IsTied q from edge to
  pub least : (other_from other : ℕ) → IsTied q other_from other to → edge ≤ other

-- each point after the first is entered by the edge that the trace back from it takes
unfoldable pub IsTraced : Question → ℕ → List (ℕ × ℕ) → ℕ → Type 0
IsTraced q from [] to = from ≡ to
IsTraced q from (edge ∷ edges) to = IsLastEdge q from edge.0 edge.1 × IsTraced q edge.1 edges to

-- a source, and the edges from it on: of each its number and the point that it enters
pub record Way : Type 0 where
  pub source : ℕ
  pub edges : List (ℕ × ℕ)

-- the path traced back from the target until a source
pub record IsLeastPath (q : Question) (target : ℕ) (path : Way) : Type 0 where
  pub source : Contains q.sources path.source
  pub traced : IsTraced q path.source path.edges target

-- a walk from a source to the target, and none costs less
pub record IsLeastWalk (q : Question) (target : ℕ) (path : Way) : Type 0 where
  pub cost : ℕ
  pub walk : IsWalk q path.source path.edges target cost
  pub dist : IsDist q target cost

-- no two edges have one number
abbrev pub NumbersDiffer : Question → Type 0
NumbersDiffer q =
    (from other edge to end : ℕ) → from < q.points → other < q.points →
    Contains (q.edges from) (edge, to) → Contains (q.edges other) (edge, end) →
    (from ≡ other) × (to ≡ end)

-- where no two edges have one number there is no other least path
abbrev pub LeastPathsAreOne : Type 0
LeastPathsAreOne =
    (q : Question) (target : ℕ) (path other : Way) → NumbersDiffer q → IsLeastPath q target path →
    IsLeastPath q target other → path ≡ other

-- each point's bound is at most what the step to a next one costs, and that one's bound
pub record AreConsistent (q : Question) (bounds : ℕ → ℕ) (target : ℕ) : Type 0 where
  pub at_target : bounds target ≡ 0
  pub steps : (from edge to cost : ℕ) → IsStep q from edge to cost → bounds from ≤ cost + bounds to

-- what is asked, of its parts
abbrev pub asked : ℕ → (ℕ → List (ℕ × ℕ)) → (ℕ → Option ℕ) → List ℕ → Question
asked points edges costs sources = record {
  points = points;
  edges = edges;
  costs = costs;
  sources =
      sources;
}
