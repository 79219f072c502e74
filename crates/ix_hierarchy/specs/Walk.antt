-- The walk through a design: the top's port bits, then the instances in preorder, of each cell its
-- nets before its instances, of each leaf its pins by port and index. It is an order of places.
use Rattle.std.specs.Prelude.{◌≡◌, ◌⊎◌, ◌<◌, ℕ, List, [], ◌∷◌, ◌++◌}
use Rattle.ix_hierarchy.specs.Hierarchy.{Path}

-- a place in the walk
pub data Spot : Type 0 where
  -- a bit of a port of the top: by the place of the port in the top's declaration
  TopBit : (place index : ℕ) → Spot
  -- a net of the cell at a path, by its place in the cell's list
  NetAt : Path → (net : ℕ) → Spot
  -- an instance
  InstanceAt : Path → Spot
  -- a pin of a leaf: by the place of the port in its declaration
  PinAt : Path → (place index : ℕ) → Spot

-- by first difference; what goes on comes later
abbrev pub IsLess : List ℕ → List ℕ → Type 0
IsLess [] [] = ⊥
IsLess [] (y ∷ ys) = Unit {0}
IsLess (x ∷ xs) [] = ⊥
IsLess (x ∷ xs) (y ∷ ys) = (x < y) ⊎ ((x ≡ y) × IsLess xs ys)

-- 0 before what an instance has itself, 1 before each step into a child
abbrev pub steps : Path → List ℕ
steps [] = []
steps (place ∷ path) = 1 ∷ place ∷ steps path

abbrev pub key : Spot → List ℕ
key (TopBit place index) = 0 ∷ place ∷ index ∷ []
key (NetAt path net) = 1 ∷ steps path ++ 0 ∷ net ∷ []
key (InstanceAt path) = 1 ∷ steps path
key (PinAt path place index) = 1 ∷ steps path ++ 0 ∷ place ∷ index ∷ []

abbrev pub IsBefore : Spot → Spot → Type 0
IsBefore a b = IsLess (key a) (key b)

-- this place has the property, and none before it has
pub record IsFirst (P : Spot → Type 0) (spot : Spot) : Type 0 where
  pub here : P spot
  pub first : (other : Spot) → IsBefore other spot → P other → ⊥
