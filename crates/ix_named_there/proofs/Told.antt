-- What is told of L1, from what is told of its parts.
use Rattle.std.proofs.Common.{◌≡◌, ◌<◌, ◌≤◌, refl, ℕ, arith, inl, inr}
use Rattle.std.specs.Prelude.{List, length, Option, Some, None}
use Rattle.std.proofs.lemmas.Bool.{cases_lt}
use Rattle.ix_message.specs.Shape.{Text}
use Rattle.ix_rec.specs.declared.device.DeviceRec.{DeviceRec}
use Rattle.ix_rec.specs.declared.phys.Phys.{Phys}
use Rattle.ix_legal.specs.declared.spot.Spot.{Spot}
use Rattle.ix_legal.specs.declared.spot.Spot.TheVariants.{InstanceAt, PlacementAt, NetAt}
use Rattle.ix_legal.specs.declared.spot.Spot.TheVariants.{SegmentAt, PropertyAt, ElementAt}
use Rattle.ix_legal.specs.Names.{IsNamed, NetIsNamed, KeyIsNamed}
use Rattle.ix_legal.specs.Spots.{IsBefore, IsFirstBreak, Everywhere}
use Rattle.ix_walk.specs.Firsts.{AllFit, IsFirstMisfit, TellsMisfit}
use Rattle.ix_walk.specs.Places.{kept_all, kept_before, breaks}
use Rattle.ix_walk.specs.Places.{first_net, first_segment, first_property}
use Rattle.ix_named_there.specs.Ends.{TellsEnds, HaveEnds}
use Rattle.ix_named_there.specs.Parts.{AllInstancesNamed, AllPlacementsNamed, AreNetsNamed}
use Rattle.ix_named_there.specs.Parts.{InstanceNamedAt, PlacementNamedAt}

-- Nets and segments.

module _ (rec : DeviceRec) (phys : Phys) where
  -- the nets before one that is told, and their segments
  ends_before : (n : ℕ) (segment : Option (ℕ × ℕ)) → TellsEnds rec phys segment
      → ((m k : ℕ) → segment ≡ Some (m, k) → n ≤ m) → (m k : ℕ) → m < n
      → AreNetsNamed rec phys (SegmentAt m k)
  ends_before n None all far m k lt = all (SegmentAt m k)
  ends_before n (Some at) first far m k lt = first.kept_before (SegmentAt m k)
      (inr (refl, inl (omega (arith, lt, far at.0 at.1 refl))))

  pub net_first : (n : ℕ) (segment : Option (ℕ × ℕ))
      → IsFirstMisfit (NetIsNamed phys) phys.nets n → TellsEnds rec phys segment
      → ((m k : ℕ) → segment ≡ Some (m, k) → n ≤ m)
      → IsFirstBreak (AreNetsNamed rec phys) (NetAt n)
  net_first n segment net ends far = first_net (AreNetsNamed rec phys) n (λ j. tt) (λ j. tt)
      (kept_before (NetIsNamed phys) phys.nets n net) (ends_before n segment ends far)
      (breaks (NetIsNamed phys) phys.nets n net)

  -- the nets up to one whose segment is told
  nets_to : (m : ℕ) (net : Option ℕ) → TellsMisfit (NetIsNamed phys) phys.nets net
      → ((n : ℕ) → net ≡ Some n → m < n) → (j : ℕ) → j ≤ m → AreNetsNamed rec phys (NetAt j)
  nets_to m None all far j le = kept_all (NetIsNamed phys) phys.nets all j
  nets_to m (Some n) first far j le =
      kept_before (NetIsNamed phys) phys.nets n first j (omega (arith, le, far n refl))

  pub segment_first : (m k : ℕ) (net : Option ℕ) → TellsMisfit (NetIsNamed phys) phys.nets net
      → TellsEnds rec phys (Some (m, k)) → ((n : ℕ) → net ≡ Some n → m < n)
      → IsFirstBreak (AreNetsNamed rec phys) (SegmentAt m k)
  segment_first m k net nets ends far = first_segment (AreNetsNamed rec phys) m k (λ j. tt)
      (λ j. tt) (nets_to m net nets far)
      (λ n j lt. ends.kept_before (SegmentAt n j) (inr (refl, inl lt)))
      (λ j lt. ends.kept_before (SegmentAt m j) (inr (refl, inr (refl, inl lt))))
      ends.broken

  pub nets_kept : AllFit (NetIsNamed phys) phys.nets (length phys.nets)
      → Everywhere (HaveEnds rec phys) → Everywhere (AreNetsNamed rec phys)
  nets_kept nets ends (InstanceAt i) = tt
  nets_kept nets ends (PlacementAt i) = tt
  nets_kept nets ends (NetAt n) = kept_all (NetIsNamed phys) phys.nets nets n
  nets_kept nets ends (SegmentAt n k) = ends (SegmentAt n k)
  nets_kept nets ends (PropertyAt i) = tt
  nets_kept nets ends (ElementAt i element) = tt

-- All of it.

module _ (names : List Text) (rec : DeviceRec) (phys : Phys) where
  -- a break of a net or a segment
  pub net_told : (spot : Spot) → AllInstancesNamed rec phys → AllPlacementsNamed rec phys
      → IsFirstBreak (AreNetsNamed rec phys) spot → IsFirstBreak (IsNamed names rec phys) spot
  net_told (InstanceAt i) instances placements first = absurd (first.broken tt)
  net_told (PlacementAt i) instances placements first = absurd (first.broken tt)
  net_told (NetAt n) instances placements first = first_net (IsNamed names rec phys) n
      (kept_all (InstanceNamedAt rec) phys.site_insts instances)
      (kept_all (PlacementNamedAt rec) phys.placements placements)
      (λ m lt. first.kept_before (NetAt m) (inr (refl, inl lt)))
      (λ m k lt. first.kept_before (SegmentAt m k) (inr (refl, inl lt)))
      first.broken
  net_told (SegmentAt n k) instances placements first = first_segment (IsNamed names rec phys) n k
      (kept_all (InstanceNamedAt rec) phys.site_insts instances)
      (kept_all (PlacementNamedAt rec) phys.placements placements)
      (λ m le. first.kept_before (NetAt m) (before_segment m le))
      (λ m j lt. first.kept_before (SegmentAt m j) (inr (refl, inl lt)))
      (λ j lt. first.kept_before (SegmentAt n j) (inr (refl, inr (refl, inl lt))))
      first.broken
    where
      before_segment : (m : ℕ) → m ≤ n → IsBefore (NetAt m) (SegmentAt n k)
      before_segment m le = elim (cases_lt m n) [
        | inl lt ↦ inr (refl, inl lt)
        | inr ge ↦ inr (refl, inr (omega (arith, le, ge), tt))
      ]
  net_told (PropertyAt i) instances placements first = absurd (first.broken tt)
  net_told (ElementAt i element) instances placements first = absurd (first.broken tt)

  pub property_told : (i : ℕ) → AllInstancesNamed rec phys → AllPlacementsNamed rec phys
      → Everywhere (AreNetsNamed rec phys)
      → IsFirstMisfit (KeyIsNamed names rec phys) phys.properties i
      → IsFirstBreak (IsNamed names rec phys) (PropertyAt i)
  property_told i instances placements nets first = first_property (IsNamed names rec phys) i
      (kept_all (InstanceNamedAt rec) phys.site_insts instances)
      (kept_all (PlacementNamedAt rec) phys.placements placements)
      (λ n. nets (NetAt n)) (λ n k. nets (SegmentAt n k))
      (kept_before (KeyIsNamed names rec phys) phys.properties i first)
      (breaks (KeyIsNamed names rec phys) phys.properties i first)

  pub all_told : AllInstancesNamed rec phys → AllPlacementsNamed rec phys
      → Everywhere (AreNetsNamed rec phys)
      → AllFit (KeyIsNamed names rec phys) phys.properties (length phys.properties)
      → Everywhere (IsNamed names rec phys)
  all_told instances placements nets properties (InstanceAt i) =
      kept_all (InstanceNamedAt rec) phys.site_insts instances i
  all_told instances placements nets properties (PlacementAt i) =
      kept_all (PlacementNamedAt rec) phys.placements placements i
  all_told instances placements nets properties (NetAt n) = nets (NetAt n)
  all_told instances placements nets properties (SegmentAt n k) = nets (SegmentAt n k)
  all_told instances placements nets properties (PropertyAt i) =
      kept_all (KeyIsNamed names rec phys) phys.properties properties i
  all_told instances placements nets properties (ElementAt i element) = tt
