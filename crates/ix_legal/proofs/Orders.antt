-- The order of places is total, and so is the order of rules.
use Rattle.std.proofs.Common.{◌≡◌, ◌⊎◌, ◌<◌, ◌∙◌, ap, refl, sym, ℕ, zero, suc}
use Rattle.std.proofs.Common.{List, [], ◌∷◌, inl, inr}
use Rattle.std.proofs.lemmas.Bool.{cases_order}
use Rattle.ix_legal.specs.Spots.{Spot, InstanceAt, PlacementAt, NetAt, SegmentAt, PropertyAt}
use Rattle.ix_legal.specs.Spots.{ElementAt, IsBefore, IsLess, key}

lists_in_order : (xs ys : List ℕ) → (xs ≡ ys) ⊎ (IsLess xs ys ⊎ IsLess ys xs)
lists_in_order [] [] = inl refl
lists_in_order [] (y ∷ ys) = inr (inl tt)
lists_in_order (x ∷ xs) [] = inr (inr tt)
lists_in_order (x ∷ xs) (y ∷ ys) = by (cases_order x y) (lists_in_order xs ys)
  where
    by : (x ≡ y) ⊎ ((x < y) ⊎ (y < x)) → (xs ≡ ys) ⊎ (IsLess xs ys ⊎ IsLess ys xs)
        → (x ∷ xs ≡ y ∷ ys) ⊎ (IsLess (x ∷ xs) (y ∷ ys) ⊎ IsLess (y ∷ ys) (x ∷ xs))
    by (inl same) (inl rest) = inl (ap (λ n. n ∷ xs) same ∙ ap (λ ns. y ∷ ns) rest)
    by (inl same) (inr (inl less)) = inr (inl (inr (same, less)))
    by (inl same) (inr (inr less)) = inr (inr (inr (sym same, less)))
    by (inr (inl lt)) rest = inr (inl (inl lt))
    by (inr (inr lt)) rest = inr (inr (inl lt))

-- a place is told by its key
abbrev spot_of : List ℕ → Spot
spot_of (zero ∷ i ∷ rest) = InstanceAt i
spot_of (suc zero ∷ i ∷ rest) = PlacementAt i
spot_of (suc (suc zero) ∷ n ∷ []) = NetAt n
spot_of (suc (suc zero) ∷ n ∷ k ∷ rest) = SegmentAt n k
spot_of (suc (suc (suc zero)) ∷ i ∷ rest) = PropertyAt i
spot_of (suc (suc (suc (suc kind))) ∷ i ∷ element ∷ rest) = ElementAt i element
spot_of ns = InstanceAt 0

spot_back : (spot : Spot) → spot_of (key spot) ≡ spot
spot_back (InstanceAt i) = refl
spot_back (PlacementAt i) = refl
spot_back (NetAt n) = refl
spot_back (SegmentAt n k) = refl
spot_back (PropertyAt i) = refl
spot_back (ElementAt i element) = refl

pub spots_in_order : (a b : Spot) → (a ≡ b) ⊎ (IsBefore a b ⊎ IsBefore b a)
spots_in_order a b = by (lists_in_order (key a) (key b))
  where
    by : (key a ≡ key b) ⊎ (IsLess (key a) (key b) ⊎ IsLess (key b) (key a))
        → (a ≡ b) ⊎ (IsBefore a b ⊎ IsBefore b a)
    by (inl same) = inl (sym (spot_back a) ∙ (ap spot_of same ∙ spot_back b))
    by (inr less) = inr less
