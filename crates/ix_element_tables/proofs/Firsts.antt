-- The first element that breaks L9, after one placement more.
use Rattle.std.proofs.Common.{◌≡◌, ◌<◌, ◌+◌, ◌∙◌, ap, sym, subst, ℕ, arith, List}
use Rattle.std.proofs.Common.{inl, inr}
use Rattle.std.specs.Prelude.{slice_get, Option, Some, None}
use Rattle.std.proofs.lemmas.Bool.{cases_lt}
use Rattle.std.proofs.lemmas.Option.{same_Some}
use Rattle.ix_message.specs.Shape.{Text}
use Rattle.ix_rec.specs.declared.device.DeviceRec.{DeviceRec}
use Rattle.ix_rec.specs.declared.phys.CellPlacement.{CellPlacement}
use Rattle.ix_rec.specs.declared.phys.Phys.{Phys}
use Rattle.ix_rec.specs.declared.phys.SiteInstance.{SiteInstance}
use Rattle.ix_legal.specs.Placements.{IsPlaced}
use Rattle.ix_legal.specs.Sites.{ElementNumber, element_at}
use Rattle.ix_legal.specs.Spots.{Everywhere}
use Rattle.ix_element_numbers.specs.Laws.{InstanceIsOne}
use Rattle.ix_element_numbers.specs.Numbers.{IsInElement}
use Rattle.ix_element_numbers.specs.declared.numbers.InElement.{InElement}
use Rattle.ix_element_tables.specs.Kept.{IsPlacedIn, KeepsTable, KeepsTableAt}
use Rattle.ix_element_tables.specs.Least.{IsEarlier, IsLeast}

-- before the first placement there is none
pub none_broken : (names : List Text) (rec : DeviceRec) (phys : Phys)
    → IsLeast names rec phys 0 None
none_broken names rec phys = record {
  broken = tt;
  kept = λ k i placement instance element lt. absurd (omega (arith, lt));
}

-- What comes before a first one comes before any that is later.
earlier_yet : (i : ℕ) (element : ElementNumber) (own : InElement) (first : Option InElement)
    → IsEarlier own.instance own.element first → IsEarlier i element (Some own)
    → IsEarlier i element first
earlier_yet i element own None own_earlier earlier = tt
earlier_yet i element own (Some other) (inl less) (inl lt) = inl (omega (arith, less, lt))
earlier_yet i element own (Some other) (inl less) (inr same) =
    let is = same.0 in inl (omega (arith, less, is))
earlier_yet i element own (Some other) (inr one) (inl lt) =
    let is = one.0 in inl (omega (arith, lt, is))
earlier_yet i element own (Some other) (inr one) (inr same) =
    inr (same.0 ∙ one.0, (let less = one.1 in let lt = same.1 in omega (arith, less, lt)))

-- an element doesn't come before itself
not_before_itself : (i : ℕ) (element : ElementNumber) (own : InElement) → own.instance ≡ i
    → own.element ≡ element → IsEarlier i element (Some own) → ⊥
not_before_itself i element own instance_is element_is (inl lt) = omega (arith, lt, instance_is)
not_before_itself i element own instance_is element_is (inr (same, lt)) =
    omega (arith, lt, element_is)

module _ (names : List Text) (rec : DeviceRec) (phys : Phys) (k : ℕ) (first : Option InElement)
    (were : IsLeast names rec phys k first) (placement : CellPlacement)
    (at : slice_get phys.placements k ≡ Some placement) where
  -- what is asked of the placements before one more, and of that
  kept_with : (now : Option InElement)
      → ((i : ℕ) (element : ElementNumber) → IsEarlier i element now → IsEarlier i element first)
      → ((i : ℕ) (instance : SiteInstance) (element : ElementNumber)
      → slice_get phys.site_insts i ≡ Some instance
      → IsPlacedIn rec instance.site element placement → IsEarlier i element now
      → KeepsTable names rec phys instance.site element placement)
      → (j i : ℕ) (other : CellPlacement) (instance : SiteInstance) (element : ElementNumber)
      → j < k + 1 → slice_get phys.placements j ≡ Some other
      → slice_get phys.site_insts i ≡ Some instance
      → IsPlacedIn rec instance.site element other → IsEarlier i element now
      → KeepsTable names rec phys instance.site element other
  kept_with now before here j i other instance element lt at_j at_i placed earlier =
      elim (cases_lt j k) [
        | inl less ↦ were.kept j i other instance element less at_j at_i placed
            (before i element earlier)
        | inr le ↦
            let is : j ≡ k = omega (arith, lt, le) in
            let same : placement ≡ other = same_Some placement other
            (sym at ∙ ap (slice_get phys.placements) (sym is) ∙ at_j) in
            subst (λ p. IsPlacedIn rec instance.site element p
            → KeepsTable names rec phys instance.site element p) same
            (λ its. here i instance element at_i its earlier) placed
      ]

  -- the first one stays where the placement keeps the rule
  stays : ((i : ℕ) (instance : SiteInstance) (element : ElementNumber)
      → slice_get phys.site_insts i ≡ Some instance
      → IsPlacedIn rec instance.site element placement → IsEarlier i element first
      → KeepsTable names rec phys instance.site element placement)
      → IsLeast names rec phys (k + 1) first
  stays here = record {
    broken = were.broken;
    kept = kept_with first (λ i element earlier. earlier) here;
  }

  module _ (instance_is_one : InstanceIsOne) (l2 : Everywhere (IsPlaced rec phys))
      (own : InElement) (in_own : IsInElement rec phys k own) where
    own_is : in_own.placement ≡ placement
    own_is = same_Some in_own.placement placement (sym in_own.placement_is ∙ at)

    own_at : element_at rec placement.site placement.bel ≡ Some (own.element, in_own.place)
    own_at = subst (λ p. element_at rec p.site p.bel ≡ Some (own.element, in_own.place)) own_is
        in_own.is_in

    own_site : in_own.number.instance.site ≡ placement.site
    own_site = in_own.number.site_is ∙ ap (λ p. p.site) own_is

    -- an element in which it is placed is its own
    same_instance : (i : ℕ) (instance : SiteInstance) (element : ElementNumber)
        → slice_get phys.site_insts i ≡ Some instance
        → IsPlacedIn rec instance.site element placement → own.instance ≡ i
    same_instance i instance element at_i placed = instance_is_one rec phys l2 own.instance i
        in_own.number.instance instance in_own.number.instance_is at_i
        (own_site ∙ placed.site_is)

    same_element : (site : ℕ) (element : ElementNumber)
        → IsPlacedIn rec site element placement → own.element ≡ element
    same_element site element placed = ap (λ p. p.0)
        (same_Some (own.element, in_own.place) (element, placed.place)
        (sym own_at ∙ placed.is_in))

    -- a cell in an element that isn't earlier
    pub later_stays : ¬ IsEarlier own.instance own.element first
        → IsLeast names rec phys (k + 1) first
    later_stays later = stays (λ i instance element at_i placed earlier. absurd (later
        (subst (λ e. IsEarlier own.instance e first)
        (sym (same_element instance.site element placed))
        (subst (λ j. IsEarlier j element first)
        (sym (same_instance i instance element at_i placed)) earlier))))

    -- a cell that keeps the rule
    pub kept_stays : KeepsTableAt names rec phys k own.element
        → IsLeast names rec phys (k + 1) first
    kept_stays keeps = stays (λ i instance element at_i placed earlier.
        subst (λ e. KeepsTable names rec phys instance.site e placement)
        (same_element instance.site element placed)
        (subst (λ s. KeepsTable names rec phys s own.element placement) placed.site_is
        (keeps placement at)))

    -- a cell that breaks it in an earlier element
    pub newly_broken : IsEarlier own.instance own.element first
        → ¬ KeepsTableAt names rec phys k own.element
        → IsLeast names rec phys (k + 1) (Some own)
    newly_broken earlier breaks = record {
      broken = record {
        instance = in_own.number.instance;
        instance_is = in_own.number.instance_is;
        k = k;
        placement = placement;
        placement_is = at;
        placed = record {
          site_is = sym own_site;
          place = in_own.place;
          is_in = own_at;
        };
        breaks = λ keeps. breaks (λ other other_at.
            subst (λ p. KeepsTable names rec phys p.site own.element p)
            (same_Some placement other (sym at ∙ other_at))
            (subst (λ s. KeepsTable names rec phys s own.element placement) own_site keeps));
      };
      kept = kept_with (Some own)
          (λ i element now. earlier_yet i element own first earlier now)
          (λ i instance element at_i placed now. absurd (not_before_itself i element own
          (same_instance i instance element at_i placed)
          (same_element instance.site element placed) now));
    }
