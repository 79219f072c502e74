-- The first place of the walk at which a rule is broken, by the kind of the place.
use Rattle.std.proofs.Common.{◌≡◌, ◌⊎◌, ◌<◌, ◌≤◌, sym, subst, ℕ, arith, inl, inr}
use Rattle.std.specs.Prelude.{List, length}
use Rattle.std.proofs.lemmas.Option.{slice_get_within}
use Rattle.ix_legal.specs.declared.spot.Spot.{Spot}
use Rattle.ix_legal.specs.declared.spot.Spot.TheVariants.{InstanceAt, PlacementAt, NetAt}
use Rattle.ix_legal.specs.declared.spot.Spot.TheVariants.{SegmentAt, PropertyAt, ElementAt}
use Rattle.ix_legal.specs.Spots.{IsBefore, IsFirstBreak, AskedOf}
use Rattle.ix_legal.specs.Breaks.{asked_where, asked_at}
use Rattle.ix_walk.specs.Firsts.{AllFit, IsFirstMisfit}

-- a kind of place that comes later isn't before
later : {P : Type 0} (a b : ℕ) → b < a → (a < b) ⊎ ((a ≡ b) × P) → ⊥
later a b lt (inl less) = omega (arith, lt, less)
later a b lt (inr same) = omega (arith, lt, same.0)

module _ (Asked : Spot → Type 0) where
  pub first_instance : (i : ℕ) → ((j : ℕ) → j < i → Asked (InstanceAt j))
      → ¬ Asked (InstanceAt i) → IsFirstBreak Asked (InstanceAt i)
  first_instance i earlier broken = record { broken = broken; kept_before = before }
    where
      before : (other : Spot) → IsBefore other (InstanceAt i) → Asked other
      before (InstanceAt j) (inl lt) = absurd (omega (arith, lt))
      before (InstanceAt j) (inr (same, inl lt)) = earlier j lt
      before (InstanceAt j) (inr (same, inr (number, less))) = absurd less
      before (PlacementAt j) less = absurd (later 1 0 (omega arith) less)
      before (NetAt n) less = absurd (later 2 0 (omega arith) less)
      before (SegmentAt n k) less = absurd (later 2 0 (omega arith) less)
      before (PropertyAt j) less = absurd (later 3 0 (omega arith) less)
      before (ElementAt j e) less = absurd (later 4 0 (omega arith) less)

  pub first_placement : (i : ℕ) → ((j : ℕ) → Asked (InstanceAt j))
      → ((j : ℕ) → j < i → Asked (PlacementAt j))
      → ¬ Asked (PlacementAt i) → IsFirstBreak Asked (PlacementAt i)
  first_placement i instances earlier broken = record { broken = broken; kept_before = before }
    where
      before : (other : Spot) → IsBefore other (PlacementAt i) → Asked other
      before (InstanceAt j) less = instances j
      before (PlacementAt j) (inl lt) = absurd (omega (arith, lt))
      before (PlacementAt j) (inr (same, inl lt)) = earlier j lt
      before (PlacementAt j) (inr (same, inr (number, less))) = absurd less
      before (NetAt n) less = absurd (later 2 1 (omega arith) less)
      before (SegmentAt n k) less = absurd (later 2 1 (omega arith) less)
      before (PropertyAt j) less = absurd (later 3 1 (omega arith) less)
      before (ElementAt j e) less = absurd (later 4 1 (omega arith) less)

  pub first_net : (n : ℕ) → ((j : ℕ) → Asked (InstanceAt j)) → ((j : ℕ) → Asked (PlacementAt j))
      → ((m : ℕ) → m < n → Asked (NetAt m)) → ((m k : ℕ) → m < n → Asked (SegmentAt m k))
      → ¬ Asked (NetAt n) → IsFirstBreak Asked (NetAt n)
  first_net n instances placements nets segments broken =
      record { broken = broken; kept_before = before }
    where
      before : (other : Spot) → IsBefore other (NetAt n) → Asked other
      before (InstanceAt j) less = instances j
      before (PlacementAt j) less = placements j
      before (NetAt m) (inl lt) = absurd (omega (arith, lt))
      before (NetAt m) (inr (same, inl lt)) = nets m lt
      before (NetAt m) (inr (same, inr (number, less))) = absurd less
      before (SegmentAt m k) (inl lt) = absurd (omega (arith, lt))
      before (SegmentAt m k) (inr (same, inl lt)) = segments m k lt
      before (SegmentAt m k) (inr (same, inr (number, less))) = absurd less
      before (PropertyAt j) less = absurd (later 3 2 (omega arith) less)
      before (ElementAt j e) less = absurd (later 4 2 (omega arith) less)

  pub first_segment : (n k : ℕ) → ((j : ℕ) → Asked (InstanceAt j))
      → ((j : ℕ) → Asked (PlacementAt j)) → ((m : ℕ) → m ≤ n → Asked (NetAt m))
      → ((m j : ℕ) → m < n → Asked (SegmentAt m j)) → ((j : ℕ) → j < k → Asked (SegmentAt n j))
      → ¬ Asked (SegmentAt n k) → IsFirstBreak Asked (SegmentAt n k)
  first_segment n k instances placements nets segments earlier broken =
      record { broken = broken; kept_before = before }
    where
      before : (other : Spot) → IsBefore other (SegmentAt n k) → Asked other
      before (InstanceAt j) less = instances j
      before (PlacementAt j) less = placements j
      before (NetAt m) (inl lt) = absurd (omega (arith, lt))
      before (NetAt m) (inr (same, inl lt)) = nets m (omega (arith, lt))
      before (NetAt m) (inr (same, inr (number, less))) = nets m (omega (arith, number))
      before (SegmentAt m j) (inl lt) = absurd (omega (arith, lt))
      before (SegmentAt m j) (inr (same, inl lt)) = segments m j lt
      before (SegmentAt m j) (inr (same, inr (number, inl lt))) =
          subst (λ i. Asked (SegmentAt i j)) (sym number) (earlier j lt)
      before (SegmentAt m j) (inr (same, inr (number, inr (segment, less)))) = absurd less
      before (PropertyAt j) less = absurd (later 3 2 (omega arith) less)
      before (ElementAt j e) less = absurd (later 4 2 (omega arith) less)

  pub first_property : (i : ℕ) → ((j : ℕ) → Asked (InstanceAt j))
      → ((j : ℕ) → Asked (PlacementAt j)) → ((n : ℕ) → Asked (NetAt n))
      → ((n k : ℕ) → Asked (SegmentAt n k)) → ((j : ℕ) → j < i → Asked (PropertyAt j))
      → ¬ Asked (PropertyAt i) → IsFirstBreak Asked (PropertyAt i)
  first_property i instances placements nets segments earlier broken =
      record { broken = broken; kept_before = before }
    where
      before : (other : Spot) → IsBefore other (PropertyAt i) → Asked other
      before (InstanceAt j) less = instances j
      before (PlacementAt j) less = placements j
      before (NetAt n) less = nets n
      before (SegmentAt n k) less = segments n k
      before (PropertyAt j) (inl lt) = absurd (omega (arith, lt))
      before (PropertyAt j) (inr (same, inl lt)) = earlier j lt
      before (PropertyAt j) (inr (same, inr (number, less))) = absurd less
      before (ElementAt j e) less = absurd (later 4 3 (omega arith) less)

module _ {A : Type 0} (Fits : ℕ → A → Type 0) (xs : List A) where
  -- a list that is as it should be keeps what is asked of it at each place
  pub kept_all : AllFit Fits xs (length xs) → (i : ℕ) → AskedOf xs i (Fits i)
  kept_all all i = asked_where xs i (Fits i)
      (λ x is. all i x (slice_get_within xs i x is) is)

  pub kept_before : (i : ℕ) → IsFirstMisfit Fits xs i → (j : ℕ) → j < i → AskedOf xs j (Fits j)
  kept_before i first j lt = asked_where xs j (Fits j) (λ x is. first.before j x lt is)

  pub breaks : (i : ℕ) → IsFirstMisfit Fits xs i → ¬ AskedOf xs i (Fits i)
  breaks i first asked = first.misfits (asked_at xs i (Fits i) first.item first.item_is asked)
