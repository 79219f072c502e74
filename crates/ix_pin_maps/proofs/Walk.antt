-- The walk over placements.
use Rattle.std.proofs.Common.{◌≡◌, ◌<◌, ◌≤◌, ◌+◌, ◌∙◌, ap, sym, subst, ℕ, List, length}
use Rattle.std.proofs.Common.{slice_get, get_or, take, Some, arith, inl, inr, IfSome, IsSome}
use Rattle.std.specs.List.{All}
use Rattle.std.proofs.lemmas.Bool.{cases_lt}
use Rattle.std.proofs.lemmas.Option.{slice_get_within, get_or_from_slice_get}
use Rattle.ix_rec.specs.declared.device.DeviceRec.{DeviceRec}
use Rattle.ix_rec.specs.declared.phys.CellPlacement.{CellPlacement}
use Rattle.ix_rec.specs.declared.phys.Phys.{Phys}
use Rattle.ix_legal.specs.declared.spot.Spot.{Spot}
use Rattle.ix_legal.specs.declared.spot.Spot.TheVariants.{InstanceAt, PlacementAt, NetAt}
use Rattle.ix_legal.specs.declared.spot.Spot.TheVariants.{SegmentAt, PropertyAt, ElementAt}
use Rattle.ix_message.specs.Shape.{Text}
use Rattle.ix_phys_write.specs.Record.{IsPhysNamed, IsPlacementNamed}
use Rattle.ix_legal.specs.Breaks.{asked_where, asked_at}
use Rattle.ix_legal.specs.Placements.{IsPlaced, MapsPins, PinMapFits, PlacementFits}
use Rattle.ix_legal.specs.Sites.{pins_at}
use Rattle.ix_legal.specs.Spots.{AskedOf, Everywhere, IsBefore, IsFirstBreak}

module _ (rec : DeviceRec) (phys : Phys) where
  -- the first so many placements keep the rule
  abbrev pub AreKept : ℕ → Type 0
  AreKept count = (k : ℕ) → k < count → AskedOf phys.placements k (PinMapFits rec)

  pub one_more_kept : (i : ℕ) (placement : CellPlacement)
      → slice_get phys.placements i ≡ Some placement → AreKept i → PinMapFits rec placement
      → AreKept (i + 1)
  one_more_kept i placement is kept fits k less = elim (cases_lt k i) [
    | inl before ↦ kept k before
    | inr after ↦ let same : k ≡ i = omega (arith, less, after) in
        subst (λ o. IfSome o (PinMapFits rec))
        (sym (ap (slice_get phys.placements) same ∙ is)) fits
  ]

  pub all_kept : (count : ℕ) → length phys.placements ≤ count → AreKept count
      → Everywhere (MapsPins rec phys)
  all_kept count end kept (InstanceAt i) = tt
  all_kept count end kept (PlacementAt i) = asked_where phys.placements i (PinMapFits rec)
      (λ placement is. asked_at phys.placements i (PinMapFits rec) placement is
      (kept i (omega (arith, slice_get_within phys.placements i placement is, end))))
  all_kept count end kept (NetAt n) = tt
  all_kept count end kept (SegmentAt n k) = tt
  all_kept count end kept (PropertyAt i) = tt
  all_kept count end kept (ElementAt i element) = tt

  pub broken_there : (i : ℕ) (placement : CellPlacement)
      → slice_get phys.placements i ≡ Some placement → AreKept i
      → (PinMapFits rec placement → ⊥) → IsFirstBreak (MapsPins rec phys) (PlacementAt i)
  broken_there i placement is kept breaks = record {
    broken = λ asked. breaks (asked_at phys.placements i (PinMapFits rec) placement is asked);
    kept_before = before;
  }
    where
      before : (other : Spot) → IsBefore other (PlacementAt i) → MapsPins rec phys other
      before (InstanceAt k) less = tt
      before (PlacementAt k) (inl lt) = absurd (omega (arith, lt))
      before (PlacementAt k) (inr (same, inl less)) = kept k less
      before (PlacementAt k) (inr (same, inr (equal, end))) = absurd end
      before (NetAt n) less = tt
      before (SegmentAt n k) less = tt
      before (PropertyAt k) less = tt
      before (ElementAt k element) less = tt

  -- a BEL admits the cell that is placed on it
  pub admits_there : (i : ℕ) (placement : CellPlacement)
      → slice_get phys.placements i ≡ Some placement → Everywhere (IsPlaced rec phys)
      → IsSome (pins_at rec placement.ty placement.site placement.bel)
  admits_there i placement is placed =
      (asked_at phys.placements i (PlacementFits rec phys (take i phys.placements)) placement is
      (placed (PlacementAt i))).admits

-- the names of a pin map are of the table
pub marked : (names : List Text) (phys : Phys) → IsPhysNamed names phys → (i : ℕ)
    (placement : CellPlacement) → slice_get phys.placements i ≡ Some placement → (count : ℕ)
    → count ≡ length names → All (λ e. e.cell_pin < count) placement.pin_map
marked names phys named i placement is count many k d within =
    let here = get_or_from_slice_get phys.placements i placement placement is in
    let own = subst (IsPlacementNamed names) here
    (named.placements i placement (slice_get_within phys.placements i placement is)) in
    let less = (own.pin_map k d within).cell_pin in
    subst (λ n. (get_or placement.pin_map k d).cell_pin < n) (sym many) less
