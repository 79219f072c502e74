-- How what is told of a rule on nets and segments is made up, net by net.
use Rattle.std.proofs.Common.{◌≡◌, ◌⊎◌, ◌<◌, ◌∙◌, ap, refl, sym, subst, ℕ, suc, arith, inl, inr}
use Rattle.std.proofs.Common.{List}
use Rattle.std.specs.Prelude.{length, slice_get, Option, Some, None, IfSome}
use Rattle.std.proofs.lemmas.Bool.{cases_order, cases_lt}
use Rattle.std.proofs.lemmas.Option.{none-some, same_Some, slice_get_within}
use Rattle.ix_rec.specs.declared.phys.Phys.{Phys}
use Rattle.ix_rec.specs.declared.phys.PhysNet.{PhysNet}
use Rattle.ix_legal.specs.Segments.{NetNumber, SegmentNumber}
use Rattle.ix_legal.specs.Spots.{Spot, InstanceAt, PlacementAt, NetAt, SegmentAt, PropertyAt}
use Rattle.ix_legal.specs.Spots.{ElementAt, AskedOf, IsBefore, Everywhere, IsFirstBreak, OfNets}

-- what is so of the thing at a place, if there is one, is asked of it
pub asked_where : {A : Type 0} (xs : List A) (i : ℕ) (P : A → Type 0)
    → ((x : A) → slice_get xs i ≡ Some x → P x) → AskedOf xs i P
asked_where {A} xs i P each = by (slice_get xs i) refl
  where
    by : (o : Option A) → slice_get xs i ≡ o → IfSome o P
    by None is = tt
    by (Some x) is = each x is

pub asked_at : {A : Type 0} (xs : List A) (i : ℕ) (P : A → Type 0) (x : A)
    → slice_get xs i ≡ Some x → AskedOf xs i P → P x
asked_at xs i P x is asked = subst (λ o. IfSome o P) is asked

module _ (phys : Phys) (Asked : NetNumber → PhysNet → Type 0)
    (AskedAt : NetNumber → PhysNet → SegmentNumber → Type 0) where
  -- the first so many nets keep it, and so do their segments
  pub record AreKept (count : ℕ) : Type 0 where
    pub nets : (n : NetNumber) (net : PhysNet) → n < count → slice_get phys.nets n ≡ Some net
        → Asked n net
    pub segments : (n : NetNumber) (net : PhysNet) (k : SegmentNumber) → n < count
        → slice_get phys.nets n ≡ Some net → AskedAt n net k

  pub none_kept : AreKept 0
  none_kept = record {
    nets = λ n net lt is. absurd (omega (arith, lt));
    segments = λ n net k lt is. absurd (omega (arith, lt));
  }

  pub one_more_kept : (n : NetNumber) (net : PhysNet) → slice_get phys.nets n ≡ Some net
      → AreKept n → Asked n net → ((k : SegmentNumber) → AskedAt n net k) → AreKept (suc n)
  one_more_kept n net is kept own each = record {
    nets = λ m other lt at. elim (cases_lt m n) [
      | inl before ↦ kept.nets m other before at
      | inr after ↦ let same : m ≡ n = omega (arith, lt, after) in
          subst (λ i. Asked i other) (sym same)
          (subst (Asked n) (same_Some net other (sym is ∙ (ap (slice_get phys.nets) (sym same) ∙ at)))
          own)
    ];
    segments = λ m other k lt at. elim (cases_lt m n) [
      | inl before ↦ kept.segments m other k before at
      | inr after ↦ let same : m ≡ n = omega (arith, lt, after) in
          subst (λ i. AskedAt i other k) (sym same)
          (subst (λ t. AskedAt n t k)
          (same_Some net other (sym is ∙ (ap (slice_get phys.nets) (sym same) ∙ at))) (each k))
    ];
  }

  -- where all nets keep it the rule is kept everywhere
  pub all_kept : AreKept (length phys.nets) → Everywhere (OfNets phys Asked AskedAt)
  all_kept kept (InstanceAt i) = tt
  all_kept kept (PlacementAt i) = tt
  all_kept kept (NetAt n) = asked_where phys.nets n (Asked n)
      (λ net is. kept.nets n net (slice_get_within phys.nets n net is) is)
  all_kept kept (SegmentAt n k) = asked_where phys.nets n (λ net. AskedAt n net k)
      (λ net is. kept.segments n net k (slice_get_within phys.nets n net is) is)
  all_kept kept (PropertyAt i) = tt
  all_kept kept (ElementAt i element) = tt

  -- of a net before this one
  kept_at : (count : ℕ) → AreKept count → (n : NetNumber) → n < count
      → AskedOf phys.nets n (Asked n)
  kept_at count kept n lt = asked_where phys.nets n (Asked n) (λ net is. kept.nets n net lt is)

  kept_in : (count : ℕ) → AreKept count → (n : NetNumber) (k : SegmentNumber) → n < count
      → AskedOf phys.nets n (λ net. AskedAt n net k)
  kept_in count kept n k lt =
      asked_where phys.nets n (λ net. AskedAt n net k) (λ net is. kept.segments n net k lt is)

  -- the first break at a net as such
  pub broken_net : (n : NetNumber) (net : PhysNet) → slice_get phys.nets n ≡ Some net → AreKept n
      → (Asked n net → ⊥) → IsFirstBreak (OfNets phys Asked AskedAt) (NetAt n)
  broken_net n net is kept breaks = record {
    broken = λ asked. breaks (asked_at phys.nets n (Asked n) net is asked);
    kept_before = before;
  }
    where
      before : (other : Spot) → IsBefore other (NetAt n) → OfNets phys Asked AskedAt other
      before (InstanceAt i) less = tt
      before (PlacementAt i) less = tt
      before (NetAt m) (inl lt) = absurd (omega (arith, lt))
      before (NetAt m) (inr (same, inl lt)) = kept_at n kept m lt
      before (NetAt m) (inr (same, inr (number, less))) = absurd less
      before (SegmentAt m j) (inl lt) = absurd (omega (arith, lt))
      before (SegmentAt m j) (inr (same, inl lt)) = kept_in n kept m j lt
      before (SegmentAt m j) (inr (same, inr (number, less))) = absurd less
      before (PropertyAt i) less = tt
      before (ElementAt i element) less = tt

  -- the first break at a segment
  pub broken_segment : (n : NetNumber) (net : PhysNet) (k : SegmentNumber)
      → slice_get phys.nets n ≡ Some net → AreKept n → Asked n net
      → ((j : SegmentNumber) → j < k → AskedAt n net j) → (AskedAt n net k → ⊥)
      → IsFirstBreak (OfNets phys Asked AskedAt) (SegmentAt n k)
  broken_segment n net k is kept own earlier breaks = record {
    broken = λ asked. breaks (asked_at phys.nets n (λ t. AskedAt n t k) net is asked);
    kept_before = before;
  }
    where
      here : (m : NetNumber) → m ≡ n → AskedOf phys.nets m (Asked m)
      here m same = subst (λ i. AskedOf phys.nets i (Asked i)) (sym same)
          (asked_where phys.nets n (Asked n) (λ other at.
          subst (Asked n) (same_Some net other (sym is ∙ at)) own))

      in_here : (m : NetNumber) (j : SegmentNumber) → m ≡ n → j < k
          → AskedOf phys.nets m (λ other. AskedAt m other j)
      in_here m j same lt = subst (λ i. AskedOf phys.nets i (λ other. AskedAt i other j)) (sym same)
          (asked_where phys.nets n (λ other. AskedAt n other j) (λ other at.
          subst (λ t. AskedAt n t j) (same_Some net other (sym is ∙ at)) (earlier j lt)))

      before : (other : Spot) → IsBefore other (SegmentAt n k) → OfNets phys Asked AskedAt other
      before (InstanceAt i) less = tt
      before (PlacementAt i) less = tt
      before (NetAt m) (inl lt) = absurd (omega (arith, lt))
      before (NetAt m) (inr (same, inl lt)) = kept_at n kept m lt
      before (NetAt m) (inr (same, inr (number, less))) = here m number
      before (SegmentAt m j) (inl lt) = absurd (omega (arith, lt))
      before (SegmentAt m j) (inr (same, inl lt)) = kept_in n kept m j lt
      before (SegmentAt m j) (inr (same, inr (number, inl lt))) = in_here m j number lt
      before (SegmentAt m j) (inr (same, inr (number, inr (segment, less)))) = absurd less
      before (PropertyAt i) less = tt
      before (ElementAt i element) less = tt
