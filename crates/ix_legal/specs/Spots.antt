-- The walk through a physical netlist: site instances, placements, nets by segment, properties,
-- then elements by site instance and number. It is an order of places.
use Rattle.std.specs.Prelude.{◌≡◌, ◌⊎◌, ◌<◌, ℕ, List, [], ◌∷◌, slice_get, Option, Some, None, IfSome}
use Rattle.ix_rec.specs.declared.phys.Phys.{Phys}
use Rattle.ix_rec.specs.declared.phys.PhysNet.{PhysNet}
use Rattle.ix_legal.specs.Segments.{NetNumber, SegmentNumber}
-- A place in the walk: things go by their places in the netlist's lists, elements by the instance
-- of their site.
pub use Rattle.ix_legal.specs.declared.spot.Spot.{Spot}
pub use Rattle.ix_legal.specs.declared.spot.Spot.TheVariants.{InstanceAt, PlacementAt, NetAt}
pub use Rattle.ix_legal.specs.declared.spot.Spot.TheVariants.{SegmentAt, PropertyAt, ElementAt}

-- by first difference; what goes on comes later
abbrev pub IsLess : List ℕ → List ℕ → Type 0
IsLess [] [] = ⊥
IsLess [] (y ∷ ys) = Unit {0}
IsLess (x ∷ xs) [] = ⊥
IsLess (x ∷ xs) (y ∷ ys) = (x < y) ⊎ ((x ≡ y) × IsLess xs ys)

abbrev pub key : Spot → List ℕ
key (InstanceAt i) = 0 ∷ i ∷ []
key (PlacementAt i) = 1 ∷ i ∷ []
key (NetAt n) = 2 ∷ n ∷ []
key (SegmentAt n k) = 2 ∷ n ∷ k ∷ []
key (PropertyAt i) = 3 ∷ i ∷ []
key (ElementAt i element) = 4 ∷ i ∷ element ∷ []

abbrev pub IsBefore : Spot → Spot → Type 0
IsBefore a b = IsLess (key a) (key b)

-- A rule is what it asks at each place. Of two things that break it together the later one does:
-- so at each place what stands before it is looked at, and not what comes after.
abbrev pub Everywhere : (Spot → Type 0) → Type 0
Everywhere Asked = (spot : Spot) → Asked spot

-- what is asked isn't so at this place, and is so at all places before it
pub record IsFirstBreak (Asked : Spot → Type 0) (spot : Spot) : Type 0 where
  pub broken : ¬ Asked spot
  pub kept_before : (other : Spot) → IsBefore other spot → Asked other

-- what is asked of the thing at a place of a list; past the end nothing
abbrev pub AskedOf : {A : Type 0} → List A → ℕ → (A → Type 0) → Type 0
AskedOf xs i P = IfSome (slice_get xs i) P

-- what is asked of nets, and of their segments, and of nothing else
abbrev pub OfNets : Phys → (NetNumber → PhysNet → Type 0)
    → (NetNumber → PhysNet → SegmentNumber → Type 0) → Spot → Type 0
OfNets phys Asked AskedAt (NetAt n) = AskedOf phys.nets n (Asked n)
OfNets phys Asked AskedAt (SegmentAt n k) = AskedOf phys.nets n (λ net. AskedAt n net k)
OfNets phys Asked AskedAt spot = Unit {0}

-- what is asked of segments alone
abbrev pub OfSegments : Phys → (NetNumber → PhysNet → SegmentNumber → Type 0) → Spot → Type 0
OfSegments phys AskedAt spot = OfNets phys (λ n net. Unit {0}) AskedAt spot

-- what is told of a rule: none where it is kept everywhere, else the first place at which it isn't
abbrev pub Tells : (Spot → Type 0) → Option Spot → Type 0
Tells Asked None = Everywhere Asked
Tells Asked (Some spot) = IsFirstBreak Asked spot
