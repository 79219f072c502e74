-- What placements force in elements, one after another.
use Rattle.std.proofs.Common.{◌≡◌, ◌≢◌, ◌⊎◌, ◌+◌, ◌∙◌, ◌↔◌, ap, sym, subst, ℕ, arith}
use Rattle.std.proofs.Common.{inl, inr, slice_get, Option, Some, None, option_map}
use Rattle.std.proofs.Common.{option_and_then, max}
use Rattle.std.specs.Int.{bit_at}
use Rattle.std.specs.FinMap.{FinMap, get, empty, get-empty}
use Rattle.std.proofs.lemmas.Bool.{cases_lt, cases_eq}
use Rattle.std.proofs.lemmas.Nat.Bits.{bit_at-lt, bit_at-zero}
use Rattle.std.proofs.lemmas.Option.{same_Some}
use Rattle.ix_rec.specs.Maps.{pin_order}
use Rattle.ix_rec.specs.declared.device.DeviceRec.{DeviceRec}
use Rattle.ix_rec.specs.declared.device.SiteType.{SiteType}
use Rattle.ix_rec.specs.declared.flow.Flat.{Flat}
use Rattle.ix_rec.specs.declared.phys.CellPlacement.{CellPlacement}
use Rattle.ix_rec.specs.declared.phys.Phys.{Phys}
use Rattle.ix_device.specs.Elements.{element_of_bel}
use Rattle.ix_device.specs.Lookups.{site_named, type_of_site, in_type, bel_in}
use Rattle.ix_device.specs.Shapes.{ShapeSeen, shape_in}
use Rattle.ix_legal.specs.Sites.{type_at, in_site, element_at, shape_at}
use Rattle.ix_ends.proofs.Items.{mapped, chained}
use Rattle.ix_fill_tables.specs.Completed.{IsForcedBy}
use Rattle.ix_fill_tables.specs.Forced.{where_usable, element_with, element_in, usable_element}
use Rattle.ix_fill_tables.specs.Forced.{bits_so_far, IsPlacedIn, AreForcedBy, HasPlacement}
use Rattle.ix_fill_tables.specs.Forced.{IsForcedAmong, AreForcedThere, TellsThere, AreForced}
use Rattle.ix_fill_tables.specs.declared.forcing.ForcedBits.{ForcedBits}
use Rattle.ix_fill_tables.proofs.Wires.{key_cases}

-- Usable elements.

pub told_in : {A : Type 0} (rec : DeviceRec) (site t : ℕ) (ty : SiteType)
    → type_at rec site ≡ Some t → slice_get rec.site_type_list t ≡ Some ty
    → (tell : SiteType → Option A) → in_site rec site tell ≡ tell ty
told_in rec site t ty type_is ty_is tell =
    ap (option_and_then (λ u. option_and_then tell (slice_get rec.site_type_list u))) type_is
    ∙ ap (option_and_then tell) ty_is

-- an element that is found so
pub record IsUsable (rec : DeviceRec) (placement : CellPlacement) (element : ℕ) : Type 0 where
  pub place : ℕ
  pub is_in : element_at rec placement.site placement.bel ≡ Some (element, place)
  pub shape : ShapeSeen
  pub shape_is : shape_at rec placement.site element ≡ Some shape

pub usable_there : (rec : DeviceRec) (placement : CellPlacement) (element : ℕ)
    → usable_element rec placement ≡ Some element → IsUsable rec placement element
usable_there rec placement element h =
    let site = chained (λ site. option_and_then (element_in rec placement) (type_of_site rec site))
    (site_named rec placement.site) element h in
    let t = chained (element_in rec placement) (type_of_site rec site.0) element site.2 in
    let bel = chained (element_with rec t.0) (in_type (bel_in placement.bel) rec t.0) element t.2 in
    let ty = chained (bel_in placement.bel) (slice_get rec.site_type_list t.0) bel.0 bel.1 in
    let at = chained (where_usable rec t.0) (in_type (element_of_bel rec bel.0) rec t.0) element
    bel.2 in
    let shape = mapped (λ (s : ShapeSeen). at.0.0) (in_type (shape_in rec at.0.0) rec t.0) element
    at.2 in
    let type_is = ap (option_and_then (type_of_site rec)) site.1 ∙ t.1 in
    let same : at.0.0 ≡ element = shape.2 in
    record {
      place = at.0.1;
      is_in = told_in rec placement.site t.0 ty.0 type_is ty.1 (λ u. option_and_then (λ b.
          element_of_bel rec b u) (bel_in placement.bel u))
          ∙ ap (option_and_then (λ b. element_of_bel rec b ty.0)) ty.2
          ∙ sym (ap (option_and_then (element_of_bel rec bel.0)) ty.1) ∙ at.1
          ∙ ap (λ n. Some (n, at.0.1)) same;
      shape = shape.0;
      shape_is = told_in rec placement.site t.0 ty.0 type_is ty.1 (shape_in rec element)
          ∙ sym (ap (option_and_then (shape_in rec element)) ty.1)
          ∙ sym (ap (λ n. in_type (shape_in rec n) rec t.0) same) ∙ shape.1;
    }

pub found_usable : (rec : DeviceRec) (placement : CellPlacement) (element place : ℕ)
    (shape : ShapeSeen) → element_at rec placement.site placement.bel ≡ Some (element, place)
    → shape_at rec placement.site element ≡ Some shape
    → usable_element rec placement ≡ Some element
found_usable rec placement element place shape at shape_is =
    let t = chained (λ t. option_and_then (λ (u : SiteType). option_and_then (λ b.
    element_of_bel rec b u) (bel_in placement.bel u)) (slice_get rec.site_type_list t))
    (type_at rec placement.site) (element, place) at in
    let ty = chained (λ (u : SiteType). option_and_then (λ b. element_of_bel rec b u)
    (bel_in placement.bel u)) (slice_get rec.site_type_list t.0) (element, place) t.2 in
    let b = chained (λ b. element_of_bel rec b ty.0) (bel_in placement.bel ty.0) (element, place)
    ty.2 in
    let site = chained (type_of_site rec) (site_named rec placement.site) t.0 t.1 in
    let shape_here : in_type (shape_in rec element) rec t.0 ≡ Some shape =
    ap (option_and_then (shape_in rec element)) ty.1
    ∙ sym (told_in rec placement.site t.0 ty.0 t.1 ty.1 (shape_in rec element)) ∙ shape_is in
    ap (option_and_then (λ site. option_and_then (element_in rec placement)
    (type_of_site rec site))) site.1
    ∙ ap (option_and_then (element_in rec placement)) site.2
    ∙ ap (option_and_then (element_with rec t.0))
    (ap (option_and_then (bel_in placement.bel)) ty.1 ∙ b.1)
    ∙ ap (option_and_then (where_usable rec t.0))
    (ap (option_and_then (element_of_bel rec b.0)) ty.1 ∙ b.2)
    ∙ ap (option_map (λ (s : ShapeSeen). element)) shape_here

-- One placement more.
module _ (rec : DeviceRec) (phys : Phys) (flat : Flat) (k : ℕ) (placement : CellPlacement)
    (at_k : slice_get phys.placements k ≡ Some placement) where
  later : (i element : ℕ) → HasPlacement rec phys k i element
      → HasPlacement rec phys (k + 1) i element
  later i element has = let bound = has.before in record {
    k = has.k;
    before = omega (arith, bound);
    placement = has.placement;
    placement_is = has.placement_is;
    is_in = has.is_in;
  }

  forced_later : (i element at bit : ℕ) → IsForcedAmong rec phys flat k i element at bit
      → IsForcedAmong rec phys flat (k + 1) i element at bit
  unfolding later
  forced_later i element at bit is = record {
    there = later i element is.there;
    forces = is.forces;
  }

  -- it is this one, or one before it
  abbrev Before : (i element at bit : ℕ) → Type 0
  Before i element at bit = IsForcedAmong rec phys flat k i element at bit
      ⊎ (IsPlacedIn rec phys placement i element
      × IsForcedBy rec phys flat element placement at bit)

  earlier_or_here : (i element : ℕ) → HasPlacement rec phys (k + 1) i element
      → HasPlacement rec phys k i element ⊎ IsPlacedIn rec phys placement i element
  earlier_or_here i element has = elim (cases_lt has.k k) [
    | inl less ↦ inl record {
      k = has.k;
      before = less;
      placement = has.placement;
      placement_is = has.placement_is;
      is_in = has.is_in;
    }
    | inr past ↦
        let bound = has.before in
        let here : has.k ≡ k = omega (arith, bound, past) in
        inr (subst (λ (p : CellPlacement). IsPlacedIn rec phys p i element)
        (same_Some has.placement placement
        (sym has.placement_is ∙ ap (slice_get phys.placements) here ∙ at_k)) has.is_in)
  ]

  forced_before_or_here : (i element at bit : ℕ)
      → IsForcedAmong rec phys flat (k + 1) i element at bit → Before i element at bit
  forced_before_or_here i element at bit is = elim (cases_lt is.there.k k) [
    | inl less ↦ inl record {
      there = record {
        k = is.there.k;
        before = less;
        placement = is.there.placement;
        placement_is = is.there.placement_is;
        is_in = is.there.is_in;
      };
      forces = is.forces;
    }
    | inr past ↦
        let bound = is.there.before in
        let here : is.there.k ≡ k = omega (arith, bound, past) in
        let same : is.there.placement ≡ placement = same_Some is.there.placement placement
        (sym is.there.placement_is ∙ ap (slice_get phys.placements) here ∙ at_k) in
        inr (
          subst (λ (p : CellPlacement). IsPlacedIn rec phys p i element) same is.there.is_in,
          subst (λ (p : CellPlacement). IsForcedBy rec phys flat element p at bit) same is.forces,
        )
  ]

  -- an element in which it isn't
  pub not_here : (i element : ℕ) (o : Option ForcedBits)
      → (IsPlacedIn rec phys placement i element → ⊥)
      → TellsThere rec phys flat k i element o → TellsThere rec phys flat (k + 1) i element o
  not_here i element None outside none = λ has. elim (earlier_or_here i element has) [
    | inl before ↦ none before
    | inr here ↦ outside here
  ]
  not_here i element (Some forced) outside are = record {
    there = later i element are.there;
    ones = λ at. (
      λ one. forced_later i element at 1 ((are.ones at).0 one),
      λ is. elim (forced_before_or_here i element at 1 is) [
        | inl before ↦ (are.ones at).1 before
        | inr here ↦ absurd (outside here.0)
      ],
    );
    zeros = λ at. (
      λ one. forced_later i element at 0 ((are.zeros at).0 one),
      λ is. elim (forced_before_or_here i element at 0 is) [
        | inl before ↦ (are.zeros at).1 before
        | inr here ↦ absurd (outside here.0)
      ],
    );
  }

  pub none_here : (forced : FinMap pin_order ForcedBits)
      → ((i element : ℕ) → IsPlacedIn rec phys placement i element → ⊥)
      → AreForced rec phys flat k forced → AreForced rec phys flat (k + 1) forced
  none_here forced none are i element =
      not_here i element (get forced (i, element)) (none i element) (are i element)

  -- the element in which it is
  module _ (i element : ℕ) (own : IsPlacedIn rec phys placement i element)
      (forced : ForcedBits) (by : AreForcedBy rec phys flat placement forced) where
    its_place : IsUsable rec placement element
    its_place = usable_there rec placement element own.element_is

    has_it : HasPlacement rec phys (k + 1) i element
    has_it = record {
      k = k;
      before = omega arith;
      placement = placement;
      placement_is = at_k;
      is_in = own;
    }

    ones_so_far : (o : Option ForcedBits) → TellsThere rec phys flat k i element o → (at : ℕ)
        → (bit_at (bits_so_far o).ones at ≡ 1) ↔ IsForcedAmong rec phys flat k i element at 1
    ones_so_far None none at = (
      λ one. let zero = bit_at-zero at in absurd (omega (arith, zero, one)),
      λ is. absurd (none is.there),
    )
    ones_so_far (Some before) are at = are.ones at

    zeros_so_far : (o : Option ForcedBits) → TellsThere rec phys flat k i element o → (at : ℕ)
        → (bit_at (bits_so_far o).zeros at ≡ 1) ↔ IsForcedAmong rec phys flat k i element at 0
    zeros_so_far None none at = (
      λ one. let zero = bit_at-zero at in absurd (omega (arith, zero, one)),
      λ is. absurd (none is.there),
    )
    zeros_so_far (Some before) are at = are.zeros at

    of_either : (a b c : ℕ) → c ≡ max a b → c ≡ 1 → (a ≡ 1) ⊎ (b ≡ 1)
    of_either a b c is one = elim (cases_eq a 1) [
      | inl e ↦ inl e
      | inr other ↦ inr (omega (arith, is, one, other))
    ]

    joined : (at bit : ℕ) (before own_word all : ℕ)
        → bit_at all at ≡ max (bit_at before at) (bit_at own_word at)
        → (bit_at before at ≡ 1) ↔ IsForcedAmong rec phys flat k i element at bit
        → (bit_at own_word at ≡ 1) ↔ IsForcedBy rec phys flat element placement at bit
        → (bit_at all at ≡ 1) ↔ IsForcedAmong rec phys flat (k + 1) i element at bit
    unfolding has_it
    joined at bit before own_word all is first second = (
      λ one. elim (of_either (bit_at before at) (bit_at own_word at) (bit_at all at) is one) [
        | inl old ↦ forced_later i element at bit (first.0 old)
        | inr new ↦ record { there = has_it; forces = second.0 new }
      ],
      λ h.
          let small = bit_at-lt before at in
          let also_small = bit_at-lt own_word at in
          elim (forced_before_or_here i element at bit h) [
            | inl old ↦ let one = first.1 old in omega (arith, is, one, also_small)
            | inr here ↦ let one = second.1 here.1 in omega (arith, is, one, small)
          ],
    )

    pub is_here : (o : Option ForcedBits) (all : ForcedBits)
        → ((at : ℕ) → bit_at all.ones at
        ≡ max (bit_at (bits_so_far o).ones at) (bit_at forced.ones at))
        → ((at : ℕ) → bit_at all.zeros at
        ≡ max (bit_at (bits_so_far o).zeros at) (bit_at forced.zeros at))
        → TellsThere rec phys flat k i element o
        → AreForcedThere rec phys flat (k + 1) i element all
    is_here o all ones zeros tells = record {
      there = has_it;
      ones = λ at. joined at 1 (bits_so_far o).ones forced.ones all.ones (ones at)
          (ones_so_far o tells at)
          (by.ones element its_place.place its_place.is_in at);
      zeros = λ at. joined at 0 (bits_so_far o).zeros forced.zeros all.zeros (zeros at)
          (zeros_so_far o tells at)
          (by.zeros element its_place.place its_place.is_in at);
    }

    pub one_here : (before now : FinMap pin_order ForcedBits) (all : ForcedBits)
        → ((at : ℕ) → bit_at all.ones at
        ≡ max (bit_at (bits_so_far (get before (i, element))).ones at) (bit_at forced.ones at))
        → ((at : ℕ) → bit_at all.zeros at
        ≡ max (bit_at (bits_so_far (get before (i, element))).zeros at) (bit_at forced.zeros at))
        → ((q : ℕ × ℕ) → q ≢ (i, element) → get now q ≡ get before q)
        → AreForced rec phys flat k before → get now (i, element) ≡ Some all
        → AreForced rec phys flat (k + 1) now
    one_here before now all ones zeros others are here j e = elim (key_cases i element j e) [
      | inl same ↦ subst (λ n. TellsThere rec phys flat (k + 1) j n (get now (j, n))) same.1
          (subst (λ n. TellsThere rec phys flat (k + 1) n element (get now (n, element))) same.0
          (subst (TellsThere rec phys flat (k + 1) i element) (sym here)
          (is_here (get before (i, element)) all ones zeros (are i element))))
      | inr apart ↦ subst (TellsThere rec phys flat (k + 1) j e) (sym (others (j, e) apart))
          (not_here j e (get before (j, e)) (λ is. apart (λ n. (
            same_Some j i (sym is.instance_is ∙ own.instance_is) n,
            same_Some e element (sym is.element_is ∙ own.element_is) n,
          ))) (are j e))
    ]

pub none_placed_yet : (rec : DeviceRec) (phys : Phys) (flat : Flat)
    (forced : FinMap pin_order ForcedBits) → forced ≡ empty → AreForced rec phys flat 0 forced
none_placed_yet rec phys flat forced none i element =
    subst (TellsThere rec phys flat 0 i element)
    (sym (ap (λ (m : FinMap pin_order ForcedBits). get m (i, element)) none
    ∙ get-empty pin_order (i, element)))
    (λ has. let bound = has.before in omega (arith, bound))
