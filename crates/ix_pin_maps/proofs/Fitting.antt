-- Entries of a pin map that fit.
use Rattle.std.proofs.Common.{◌≡◌, ◌⊎◌, ◌<◌, ◌∙◌, refl, ap, sym, subst, ℕ, zero, suc, List, [], ◌∷◌}
use Rattle.std.proofs.Common.{length, map, slice_get, Contains, Option, Some, None, Bool}
use Rattle.std.proofs.Common.{true, false, true≢false, ◌&&◌, ◌||◌, not, nat_eq, cond, inl, inr}
use Rattle.std.proofs.Common.{option_map, option_and_then, is_some, MatchOption}
use Rattle.std.specs.List.{All, AllByRecursion, list_all, find}
use Rattle.std.proofs.lemmas.List.Elements.{recursion_from_All}
use Rattle.std.proofs.lemmas.Bool.{eqb-true, eq-eqb}
use Rattle.std.proofs.lemmas.Option.{none-some, same_Some, slice_get_within, slice_get-get_or}
use Rattle.std.proofs.lemmas.Option.{get_or_from_slice_get, slice_get-map}
use Rattle.ix_rec.specs.declared.device.DeviceRec.{DeviceRec}
use Rattle.ix_rec.specs.declared.device.LutCell.{LutCell}
use Rattle.ix_rec.specs.declared.phys.CellPlacement.{CellPlacement}
use Rattle.ix_rec.specs.declared.phys.PinMapping.{PinMapping}
use Rattle.ix_device_rules.specs.Rules.{is_new}
use Rattle.ix_device.specs.Admission.{pins_in}
use Rattle.ix_device.specs.Elements.{differ}
use Rattle.ix_device.specs.Lookups.{in_type, bel_pin_in}
use Rattle.ix_device.proofs.Walks.{any_at}
use Rattle.ix_rec.specs.declared.device.LutBel.{LutBel}
use Rattle.ix_legal.specs.Placements.{MapsInputs, IsOfDevice, PinMapFits, PinsFit}
use Rattle.ix_legal.specs.Sites.{pins_at, bel_pin_at, lut_cell_of, lut_bel_at}
use Rattle.ix_pin_maps.specs.declared.marks.Mark.{Mark}
use Rattle.ix_pin_maps.specs.Entries.{entry_fits, is_input, is_put, is_under, InputsFit}
use Rattle.ix_pin_maps.specs.Marks.{first_pin, has_pin, pin_under}
use Rattle.ix_pin_maps.proofs.Admission.{IsOn, pins_there, pin_there, pins_differ_in}

left : (a b : Bool) → (a && b) ≡ true → a ≡ true
left true b h = refl
left false b h = h

right : (a b : Bool) → (a && b) ≡ true → b ≡ true
right true b h = h
right false true h = refl
right false false h = h

both : (a b : Bool) → a ≡ true → b ≡ true → (a && b) ≡ true
both true b h g = g
both false b h g = h

either : (a b : Bool) → (a || b) ≡ true → (a ≡ true) ⊎ (b ≡ true)
either true b h = inl refl
either false b h = inr h

first : (a b : Bool) → a ≡ true → (a || b) ≡ true
first true b h = refl
first false b h = absurd (true≢false (sym h))

second : (a b : Bool) → b ≡ true → (a || b) ≡ true
second true b h = refl
second false b h = h

-- Lists of which each item is so.

all_then : {A : Type 0} (P Q : A → Type 0) → ((x : A) → P x → Q x) → (xs : List A)
    → AllByRecursion P xs → AllByRecursion Q xs
all_then P Q then [] all = tt
all_then P Q then (x ∷ xs) all = (then x all.0, all_then P Q then xs all.1)

all_tests : {A : Type 0} (p : A → Bool) (N P : A → Type 0)
    → ((x : A) → N x → p x ≡ true → P x) → (xs : List A) → AllByRecursion N xs
    → list_all p xs ≡ true → AllByRecursion P xs
all_tests p N P then [] named all = tt
all_tests p N P then (x ∷ xs) named all = (
  then x named.0 (left (p x) (list_all p xs) all),
  all_tests p N P then xs named.1 (right (p x) (list_all p xs) all),
)

tests_all : {A : Type 0} (p : A → Bool) (N P Q : A → Type 0)
    → ((x : A) → N x → P x → Q x → p x ≡ true) → (xs : List A) → AllByRecursion N xs
    → AllByRecursion P xs → AllByRecursion Q xs → list_all p xs ≡ true
tests_all p N P Q then [] named one two = refl
tests_all p N P Q then (x ∷ xs) named one two = both (p x) (list_all p xs)
    (then x named.0 one.0 two.0) (tests_all p N P Q then xs named.1 one.1 two.1)

-- A pin map without twins.

-- what it lists is the first of its cell pin
first_listed : (pins : List (ℕ × ℕ)) (k c p : ℕ) → differ (map (λ x. x.0) pins) ≡ true
    → slice_get pins k ≡ Some (c, p) → first_pin pins c ≡ Some p
first_listed [] k c p apart at = absurd (none-some (c, p) at)
first_listed (x ∷ xs) zero c p apart at =
    let same = same_Some {A = ℕ × ℕ} x (c, p) at in
    ap (λ b. option_map (λ y. y.1) (cond b (Some x) (find (λ y. nat_eq y.0 c) xs)))
    (eq-eqb x.0 c (ap (λ y. y.0) same)) ∙ ap (λ y. Some y.1) same
first_listed (x ∷ xs) (suc k) c p apart at =
    by (nat_eq x.0 c) refl
    (first_listed xs k c p (right (is_new (map (λ y. y.0) xs) x.0) _ apart) at)
  where
    by : (b : Bool) → nat_eq x.0 c ≡ b → first_pin xs c ≡ Some p
        → option_map (λ y. y.1) (cond b (Some x) (find (λ y. nat_eq y.0 c) xs)) ≡ Some p
    by false other later = later
    by true same later =
        let has = any_at (nat_eq x.0) (map (λ y. y.0) xs) k c
        (slice_get-map (λ y. y.0) xs k ∙ ap (option_map (λ y. y.0)) at) same in
        absurd (true≢false (sym (left (is_new (map (λ y. y.0) xs) x.0) _ apart) ∙ ap not has))

-- the first of a cell pin is listed
place_listed : (pins : List (ℕ × ℕ)) (c p : ℕ) → first_pin pins c ≡ Some p
    → (k : ℕ) × (slice_get pins k ≡ Some (c, p))
place_listed [] c p is = absurd (none-some p is)
place_listed (x ∷ xs) c p is = by (nat_eq x.0 c) refl is (place_listed xs c p)
  where
    by : (b : Bool) → nat_eq x.0 c ≡ b
        → option_map (λ y. y.1) (cond b (Some x) (find (λ y. nat_eq y.0 c) xs)) ≡ Some p
        → (first_pin xs c ≡ Some p → (k : ℕ) × (slice_get xs k ≡ Some (c, p)))
        → (k : ℕ) × (slice_get (x ∷ xs) k ≡ Some (c, p))
    by true same one later = (
      0,
      ap (λ n. Some (n, x.1)) (eqb-true x.0 c same) ∙ ap (λ n. Some (c, n)) (same_Some x.1 p one),
    )
    by false other one later = let at = later one in (suc at.0, at.1)

contained : (pins : List (ℕ × ℕ)) (c p : ℕ) → first_pin pins c ≡ Some p → Contains pins (c, p)
contained pins c p is = let at = place_listed pins c p is in (
  at.0,
  slice_get_within pins at.0 (c, p) at.1,
  get_or_from_slice_get pins at.0 (c, p) (c, p) at.1,
)

first_of : (pins : List (ℕ × ℕ)) (c p : ℕ) → differ (map (λ x. x.0) pins) ≡ true
    → Contains pins (c, p) → first_pin pins c ≡ Some p
first_of pins c p apart has = first_listed pins has.0 c p apart
    (slice_get-get_or pins has.0 (c, p) has.1 ∙ ap Some has.2)

is_pin : (o : Option ℕ) (p : ℕ) → has_pin o p ≡ true → o ≡ Some p
is_pin None p h = absurd (true≢false (sym h))
is_pin (Some q) p h = ap Some (eqb-true q p h)

pin_is : (o : Option ℕ) (p : ℕ) → o ≡ Some p → has_pin o p ≡ true
pin_is None p h = absurd (none-some p h)
pin_is (Some q) p h = eq-eqb q p (same_Some q p h)

-- Entries of a placement.

module _ (rec : DeviceRec) (placement : CellPlacement) (t b : ℕ)
    (on : IsOn rec placement.site placement.bel t b) (pins : List (ℕ × ℕ))
    (pins_are : in_type (pins_in rec placement.ty b) rec t ≡ Some pins) (turn : ℕ)
    (marks : List Mark) (under : (name : ℕ) → name < length marks
    → pin_under turn marks name ≡ first_pin pins name) where
  abbrev IsMarked : PinMapping → Type 0
  IsMarked e = e.cell_pin < length marks

  abbrev IsOwn : PinMapping → Type 0
  IsOwn e = e.bel ≡ placement.bel

  known : pins_at rec placement.ty placement.site placement.bel ≡ Some pins
  known = pins_there rec placement.site placement.bel t b on placement.ty ∙ pins_are

  apart : differ (map (λ x. x.0) pins) ≡ true
  apart = pins_differ_in rec placement.ty b on.ty pins
      (sym (ap (option_and_then (pins_in rec placement.ty b)) on.ty_is) ∙ pins_are)

  pin_of : (e : PinMapping) → IsOwn e
      → bel_pin_at rec placement.site e.bel e.bel_pin ≡ in_type (bel_pin_in b e.bel_pin) rec t
  pin_of e own = ap (λ n. bel_pin_at rec placement.site n e.bel_pin) own
      ∙ pin_there rec placement.site placement.bel t b on e.bel_pin

  put_is : (e : PinMapping) → IsMarked e → IsOwn e → is_put rec t b turn marks e ≡ true
      → IsOfDevice rec placement e
  put_is e marked own put = by (in_type (bel_pin_in b e.bel_pin) rec t) refl put
    where
      by : (o : Option ℕ) → in_type (bel_pin_in b e.bel_pin) rec t ≡ o
          → is_under turn marks e.cell_pin o ≡ true → IsOfDevice rec placement e
      by None at h = absurd (true≢false (sym h))
      by (Some pin) at h = record {
        pins = pins;
        pins_are = known;
        pin = pin;
        pin_is = pin_of e own ∙ at;
        listed = contained pins e.cell_pin pin (sym (under e.cell_pin marked)
            ∙ is_pin (pin_under turn marks e.cell_pin) pin h);
      }

  is_put_then : (e : PinMapping) → IsMarked e → IsOwn e → IsOfDevice rec placement e
      → is_put rec t b turn marks e ≡ true
  is_put_then e marked own is =
      let same = same_Some is.pins pins (sym is.pins_are ∙ known) in
      let listed = subst (λ l. Contains l (e.cell_pin, is.pin)) same is.listed in
      ap (is_under turn marks e.cell_pin) (sym (pin_of e own) ∙ is.pin_is)
      ∙ pin_is (pin_under turn marks e.cell_pin) is.pin (under e.cell_pin marked
      ∙ first_of pins e.cell_pin is.pin apart listed)

  abbrev IsOne : Option LutCell → PinMapping → Type 0
  IsOne lut e = (is_input lut e ≡ true) ⊎ IsOfDevice rec placement e

  abbrev tested : Option LutCell → PinMapping → Bool
  tested lut = entry_fits rec t b turn marks lut placement.bel

  one_fits : (lut : Option LutCell) (e : PinMapping) → IsMarked e → tested lut e ≡ true
      → IsOwn e × IsOne lut e
  one_fits lut e marked h =
      let own = eqb-true e.bel placement.bel (left (nat_eq e.bel placement.bel) _ h) in (
        own,
        elim (either (is_input lut e) (is_put rec t b turn marks e)
            (right (nat_eq e.bel placement.bel) _ h)) [
              | inl input ↦ inl input
              | inr put ↦ inr (put_is e marked own put)
            ],
      )

  fits_one : (lut : Option LutCell) (e : PinMapping) → IsMarked e → IsOwn e → IsOne lut e
      → tested lut e ≡ true
  fits_one lut e marked own one =
      both (nat_eq e.bel placement.bel) _ (eq-eqb e.bel placement.bel own) (elim one [
        | inl input ↦ first (is_input lut e) (is_put rec t b turn marks e) input
        | inr is ↦ second (is_input lut e) (is_put rec t b turn marks e)
            (is_put_then e marked own is)
      ])

  -- the rest of a pin map that fits
  parts : (lut : Option LutCell) → AllByRecursion (IsOne lut) placement.pin_map
      → InputsFit rec placement lut → PinsFit rec placement lut
  parts None ones inputs = all_then (IsOne None) (IsOfDevice rec placement) (λ e one. elim one [
    | inl input ↦ absurd (true≢false (sym input))
    | inr is ↦ is
  ]) placement.pin_map ones
  parts (Some lut) ones inputs = record {
    bel = inputs.bel;
    bel_is = inputs.bel_is;
    places = inputs.places;
    inputs = inputs.inputs;
    others = ones;
  }

  inputs_of : (lut : Option LutCell) → PinsFit rec placement lut → InputsFit rec placement lut
  inputs_of None fit = tt
  inputs_of (Some lut) fit = record {
    bel = fit.bel;
    bel_is = fit.bel_is;
    places = fit.places;
    inputs = fit.inputs;
  }

  ones_of : (lut : Option LutCell) → PinsFit rec placement lut
      → AllByRecursion (IsOne lut) placement.pin_map
  ones_of None fit = all_then (IsOfDevice rec placement) (IsOne None) (λ e is. inr is)
      placement.pin_map fit
  ones_of (Some lut) fit = fit.others

  fits_then : (lut : Option LutCell) → lut ≡ lut_cell_of rec placement.ty
      → AllByRecursion IsMarked placement.pin_map
      → list_all (tested lut) placement.pin_map ≡ true
      → InputsFit rec placement (lut_cell_of rec placement.ty) → PinMapFits rec placement
  fits_then lut lut_is marked all inputs =
      let each = all_tests (tested lut) IsMarked (λ e. IsOwn e × IsOne lut e) (one_fits lut)
      placement.pin_map marked all in
      record {
        own_bel = all_then (λ e. IsOwn e × IsOne lut e) IsOwn (λ e both. both.0)
            placement.pin_map each;
        pins = subst (PinsFit rec placement) lut_is (parts lut
            (all_then (λ e. IsOwn e × IsOne lut e) (IsOne lut) (λ e both. both.1)
            placement.pin_map each)
            (subst (InputsFit rec placement) (sym lut_is) inputs));
      }

  then_fits : (lut : Option LutCell) → lut ≡ lut_cell_of rec placement.ty
      → AllByRecursion IsMarked placement.pin_map → PinMapFits rec placement
      → (list_all (tested lut) placement.pin_map ≡ true)
      × InputsFit rec placement (lut_cell_of rec placement.ty)
  then_fits lut lut_is marked fits =
      let pins' = subst (PinsFit rec placement) (sym lut_is) fits.pins in (
        tests_all (tested lut) IsMarked IsOwn (IsOne lut) (fits_one lut) placement.pin_map marked
            fits.own_bel (ones_of lut pins'),
        inputs_of (lut_cell_of rec placement.ty) fits.pins,
      )

  -- a pin map fits where its entries do, and the inputs of its LUT
  pub judged : (lut : Option LutCell) → lut ≡ lut_cell_of rec placement.ty
      → All IsMarked placement.pin_map
      → (list_all (tested lut) placement.pin_map ≡ true
      → InputsFit rec placement (lut_cell_of rec placement.ty) → PinMapFits rec placement)
      × (PinMapFits rec placement → (list_all (tested lut) placement.pin_map ≡ true)
      × InputsFit rec placement (lut_cell_of rec placement.ty))
  judged lut lut_is marked =
      let each = recursion_from_All IsMarked placement.pin_map marked in
      (fits_then lut lut_is each, then_fits lut lut_is each)

-- Whether a placed LUT has places for its inputs, where its BEL was looked up.
module _ (rec : DeviceRec) (placement : CellPlacement) (lut : LutCell)
    (lut_is : lut_cell_of rec placement.ty ≡ Some lut) where
  pub no_bel : lut_bel_at rec placement.site placement.bel ≡ None
      → InputsFit rec placement (lut_cell_of rec placement.ty) → ⊥
  no_bel none fit = let has = subst (InputsFit rec placement) lut_is fit in
      none-some has.bel (sym none ∙ has.bel_is)

  module _ (bel : LutBel) (bel_is : lut_bel_at rec placement.site placement.bel ≡ Some bel) where
    pub has_then : (places : Option (List ℕ)) → MatchOption places
        ((other : List ℕ) → MapsInputs lut bel placement other → ⊥)
        (MapsInputs lut bel placement) → is_some places ≡ true
        → InputsFit rec placement (lut_cell_of rec placement.ty)
    has_then None told some = absurd (true≢false (sym some))
    has_then (Some places) told some = subst (InputsFit rec placement) (sym lut_is) (record {
      bel = bel;
      bel_is = bel_is;
      places = places;
      inputs = told;
    })

    pub then_has : (places : Option (List ℕ)) → MatchOption places
        ((other : List ℕ) → MapsInputs lut bel placement other → ⊥)
        (MapsInputs lut bel placement) → InputsFit rec placement (lut_cell_of rec placement.ty)
        → is_some places ≡ true
    then_has (Some places) told fit = refl
    then_has None told fit = let has = subst (InputsFit rec placement) lut_is fit in
        absurd (told has.places (subst (λ x. MapsInputs lut x placement has.places)
        (same_Some has.bel bel (sym has.bel_is ∙ bel_is)) has.inputs))
