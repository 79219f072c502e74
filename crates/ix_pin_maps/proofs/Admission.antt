-- What the admission of a cell tells of its BEL.
use Rattle.std.proofs.Common.{◌≡◌, ◌<◌, ◌∙◌, refl, ap, sym, ℕ, zero, suc, List, [], ◌∷◌, length}
use Rattle.std.proofs.Common.{map, slice_get, Option, Some, None, is_some, IsSome, Bool}
use Rattle.std.proofs.Common.{true, false, true≢false, ◌&&◌, ◌||◌, not, nat_eq, nat_le, arith}
use Rattle.std.proofs.Common.{if◌then◌else◌, option_map, option_and_then}
use Rattle.std.specs.List.{list_all, list_any, flat_map}
use Rattle.std.proofs.lemmas.Bool.{eqb-true, eq-eqb}
use Rattle.std.proofs.lemmas.Option.{none-some, same_Some, get_or_from_slice_get}
use Rattle.ix_rec.specs.declared.device.Bel.{Bel}
use Rattle.ix_rec.specs.declared.device.CellBelPinEntry.{CellBelPinEntry}
use Rattle.ix_rec.specs.declared.device.CommonCellBelPinMaps.{CommonCellBelPinMaps}
use Rattle.ix_rec.specs.declared.device.DeviceRec.{DeviceRec}
use Rattle.ix_rec.specs.declared.device.LutBel.{LutBel}
use Rattle.ix_rec.specs.declared.device.LutCell.{LutCell}
use Rattle.ix_rec.specs.declared.device.LutElement.{LutElement}
use Rattle.ix_rec.specs.declared.device.SiteType.{SiteType}
use Rattle.ix_rec.specs.declared.phys.CellPlacement.{CellPlacement}
use Rattle.ix_device_rules.specs.Rules.{is_new}
use Rattle.ix_device.specs.Lookups.{in_type, bel_in, bel_pin_in, pin_of_bel, wire_in}
use Rattle.ix_device.specs.Elements.{differ, elements_of, element_of_bel, is_usable, has_own_lines}
use Rattle.ix_device.specs.Elements.{input_lines, present, distinct, lut_inputs_of}
use Rattle.ix_device.specs.Admission.{admitted, first_map, fits_bel, is_logic, has_inputs}
use Rattle.ix_device.specs.Admission.{inputs_of_bel, numbered_pins, pins_in, takes_lut}
use Rattle.ix_device.proofs.NumberedLemmas.{there_is}
use Rattle.ix_device.proofs.Walks.{any_at}
use Rattle.ix_lut.specs.Tables.{AllDiffer}
use Rattle.ix_legal.specs.Sites.{type_at, pins_at, lut_cell_of, lut_bel_at, bel_pin_at}
use Rattle.ix_lut_places.specs.Places.{lut_bel_in}
use Rattle.ix_pin_maps.specs.Entries.{bel_place}

left : (a b : Bool) → (a && b) ≡ true → a ≡ true
left true b h = refl
left false b h = h

right : (a b : Bool) → (a && b) ≡ true → b ≡ true
right true b h = h
right false true h = refl
right false false h = h

passes : {A : Type 0} (p : A → Bool) (xs : List A) (i : ℕ) (x : A) → slice_get xs i ≡ Some x
    → list_all p xs ≡ true → p x ≡ true
passes p [] i x at all = absurd (none-some x at)
passes p (y ∷ ys) zero x at all =
    ap p (sym (same_Some y x at)) ∙ left (p y) (list_all p ys) all
passes p (y ∷ ys) (suc i) x at all = passes p ys i x at (right (p y) (list_all p ys) all)

-- Where a BEL is.

-- a site's type and the BEL in it, by the names of site and BEL
pub record IsOn (rec : DeviceRec) (site bel t b : ℕ) : Type 0 where
  pub type_is : type_at rec site ≡ Some t
  pub ty : SiteType
  pub ty_is : slice_get rec.site_type_list t ≡ Some ty
  pub bel_is : bel_in bel ty ≡ Some b

pub is_on : (rec : DeviceRec) (site bel t b : ℕ) → bel_place rec site bel ≡ Some (t, b)
    → IsOn rec site bel t b
is_on rec site bel t b is = by (type_at rec site) refl is
  where
    by : (o : Option ℕ) → type_at rec site ≡ o
        → option_and_then {U = ℕ × ℕ} (λ u. option_map (λ c. (u, c)) (in_type (bel_in bel) rec u)) o
        ≡ Some (t, b) → IsOn rec site bel t b
    by None at h = absurd (none-some (t, b) h)
    by (Some u) at h = by_type (slice_get rec.site_type_list u) refl h
      where
        by_type : (p : Option SiteType) → slice_get rec.site_type_list u ≡ p
            → option_map {U = ℕ × ℕ} (λ c. (u, c)) (option_and_then (bel_in bel) p) ≡ Some (t, b)
            → IsOn rec site bel t b
        by_type None at_type g = absurd (none-some (t, b) g)
        by_type (Some ty) at_type g = by_bel (bel_in bel ty) refl g
          where
            by_bel : (q : Option ℕ) → bel_in bel ty ≡ q → option_map {U = ℕ × ℕ} (λ c. (u, c)) q ≡ Some (t, b)
                → IsOn rec site bel t b
            by_bel None at_bel f = absurd (none-some (t, b) f)
            by_bel (Some c) at_bel f =
                let same = same_Some {A = ℕ × ℕ} (u, c) (t, b) f in
                let type_same : u ≡ t = ap (λ x. x.0) same in
                let bel_same : c ≡ b = ap (λ x. x.1) same in
                record {
                  type_is = at ∙ ap Some type_same;
                  ty = ty;
                  ty_is = ap (slice_get rec.site_type_list) (sym type_same) ∙ at_type;
                  bel_is = at_bel ∙ ap Some bel_same;
                }

-- an admitted cell is on a BEL
pub is_placed : (rec : DeviceRec) (cell site bel : ℕ) → IsSome (pins_at rec cell site bel)
    → (p : ℕ × ℕ) × (bel_place rec site bel ≡ Some p)
is_placed rec cell site bel some = by (type_at rec site) some
  where
    by : (o : Option ℕ) → is_some (option_and_then (λ t. option_and_then (λ ty.
        option_and_then (λ b. pins_in rec cell b ty) (bel_in bel ty))
        (slice_get rec.site_type_list t)) o) ≡ true → (p : ℕ × ℕ) × (option_and_then {U = ℕ × ℕ} (λ t.
        option_map (λ b. (t, b)) (in_type (bel_in bel) rec t)) o ≡ Some p)
    by None h = absurd (true≢false (sym h))
    by (Some t) h = by_type (slice_get rec.site_type_list t) h
      where
        by_type : (o : Option SiteType) → is_some (option_and_then (λ ty.
            option_and_then (λ b. pins_in rec cell b ty) (bel_in bel ty)) o) ≡ true
            → (p : ℕ × ℕ) × (option_map {U = ℕ × ℕ} (λ b. (t, b)) (option_and_then (bel_in bel) o) ≡ Some p)
        by_type None g = absurd (true≢false (sym g))
        by_type (Some ty) g = by_bel (bel_in bel ty) g
          where
            by_bel : (o : Option ℕ) → is_some (option_and_then (λ b. pins_in rec cell b ty) o)
                ≡ true → (p : ℕ × ℕ) × (option_map {U = ℕ × ℕ} (λ b. (t, b)) o ≡ Some p)
            by_bel None f = absurd (true≢false (sym f))
            by_bel (Some b) f = ((t, b), refl)

-- what is told there
module _ (rec : DeviceRec) (site bel t b : ℕ) (on : IsOn rec site bel t b) where
  told : {A : Type 0} (tell : ℕ → SiteType → Option A) → option_and_then (λ u.
      option_and_then (λ ty. option_and_then (λ c. tell c ty) (bel_in bel ty))
      (slice_get rec.site_type_list u)) (type_at rec site) ≡ tell b on.ty
  told {A} tell =
      ap (option_and_then (λ u. option_and_then (λ ty. option_and_then (λ c.
      tell c ty) (bel_in bel ty)) (slice_get rec.site_type_list u))) on.type_is
      ∙ ap (option_and_then (λ ty. option_and_then (λ c. tell c ty) (bel_in bel ty))) on.ty_is
      ∙ ap (option_and_then (λ c. tell c on.ty)) on.bel_is

  in_it : {A : Type 0} (tell : SiteType → Option A) → in_type tell rec t ≡ tell on.ty
  in_it tell = ap (option_and_then tell) on.ty_is

  pub pins_there : (cell : ℕ) → pins_at rec cell site bel ≡ in_type (pins_in rec cell b) rec t
  pins_there cell = told (pins_in rec cell) ∙ sym (in_it (pins_in rec cell b))

  pub pin_there : (pin : ℕ) → bel_pin_at rec site bel pin ≡ in_type (bel_pin_in b pin) rec t
  pin_there pin = told (λ c. bel_pin_in c pin) ∙ sym (in_it (bel_pin_in b pin))

  pub lut_bel_there : lut_bel_at rec site bel ≡ in_type (lut_bel_in rec b) rec t
  lut_bel_there =
      ap (λ o. option_and_then (λ at. option_and_then (λ elements. option_and_then (λ e.
      slice_get e.bels at.1) (slice_get elements at.0)) (option_map (elements_of rec)
      (option_and_then (slice_get rec.site_type_list) (type_at rec site)))) o)
      (told (element_of_bel rec))
      ∙ ap (λ o. option_and_then (λ at. option_and_then (λ elements. option_and_then (λ e.
      slice_get e.bels at.1) (slice_get elements at.0)) (option_map (elements_of rec)
      (option_and_then (slice_get rec.site_type_list) o))) (element_of_bel rec b on.ty)) on.type_is
      ∙ ap (λ o. option_and_then (λ at. option_and_then (λ elements. option_and_then (λ e.
      slice_get e.bels at.1) (slice_get elements at.0)) (option_map (elements_of rec) o))
      (element_of_bel rec b on.ty)) on.ty_is
      ∙ sym (in_it (lut_bel_in rec b))

-- The pin map by which a BEL admits a cell.

record Admits (rec : DeviceRec) (cell b : ℕ) (ty : SiteType) (pins : List (ℕ × ℕ)) : Type 0 where
  pub of : Bel
  pub map_is : CommonCellBelPinMaps
  pub fits : fits_bel ty of.name map_is.pins ≡ true
  pub takes : takes_lut rec cell ty b ≡ true
  pub pins_are : pins ≡ numbered_pins ty of.name map_is.pins

admits : (rec : DeviceRec) (cell b : ℕ) (ty : SiteType) (pins : List (ℕ × ℕ))
    → pins_in rec cell b ty ≡ Some pins → Admits rec cell b ty pins
unfolding pins_in
admits rec cell b ty pins is = by (slice_get ty.bels b) is
  where
    by : (o : Option Bel) → option_and_then (admitted rec cell ty b) o ≡ Some pins
        → Admits rec cell b ty pins
    by None h = absurd (none-some pins h)
    by (Some of) h = by_map (first_map rec cell ty of.name) h
      where
        by_map : (o : Option CommonCellBelPinMaps) → option_and_then (λ m.
            if is_logic of.category && fits_bel ty of.name m.pins && takes_lut rec cell ty b
            then Some (numbered_pins ty of.name m.pins) else None) o ≡ Some pins
            → Admits rec cell b ty pins
        by_map None g = absurd (none-some pins g)
        by_map (Some m) g = by_test (is_logic of.category && fits_bel ty of.name m.pins
            && takes_lut rec cell ty b) refl g
          where
            by_test : (test : Bool) → (is_logic of.category && fits_bel ty of.name m.pins
                && takes_lut rec cell ty b) ≡ test
                → (if test then Some (numbered_pins ty of.name m.pins) else None) ≡ Some pins
                → Admits rec cell b ty pins
            by_test false test f = absurd (none-some pins f)
            by_test true test f = record {
              of = of;
              map_is = m;
              fits = right (is_logic of.category) _ (left _ (takes_lut rec cell ty b) test);
              takes = right (is_logic of.category && fits_bel ty of.name m.pins) _ test;
              pins_are = sym (same_Some _ pins f);
            }

cell_pins : (ty : SiteType) (name : ℕ) (entries : List CellBelPinEntry)
    → map (λ p. p.0) (numbered_pins ty name entries) ≡ map (λ e. e.cell_pin) entries
cell_pins ty name [] = refl
cell_pins ty name (e ∷ entries) = ap (λ xs. e.cell_pin ∷ xs) (cell_pins ty name entries)

-- it has no cell pin twice
pub pins_differ_in : (rec : DeviceRec) (cell b : ℕ) (ty : SiteType) (pins : List (ℕ × ℕ))
    → pins_in rec cell b ty ≡ Some pins → differ (map (λ p. p.0) pins) ≡ true
pins_differ_in rec cell b ty pins is =
    let a = admits rec cell b ty pins is in
    ap (λ xs. differ (map (λ p. p.0) xs)) a.pins_are
    ∙ ap differ (cell_pins ty a.of.name a.map_is.pins)
    ∙ left _ (differ (map (λ e. e.bel_pin) a.map_is.pins)) (left _ _ a.fits)

-- Inputs of a BEL that admits a LUT.

module _ (ty : SiteType) (bel : LutBel) where
  abbrev line : ℕ → Option ℕ
  line pin = option_and_then (λ p. wire_in p ty) (pin_of_bel bel.name pin ty)

  has_line : (pins : List ℕ) (pin y : ℕ) → line pin ≡ Some y → list_any (nat_eq pin) pins ≡ true
      → list_any (nat_eq y) (present (map line pins)) ≡ true
  has_line [] pin y is has = has
  has_line (x ∷ xs) pin y is has =
      by (nat_eq pin x) refl has (line x) refl (has_line xs pin y is)
    where
      by : (b : Bool) → nat_eq pin x ≡ b → (b || list_any (nat_eq pin) xs) ≡ true
          → (o : Option ℕ) → line x ≡ o → (list_any (nat_eq pin) xs ≡ true
          → list_any (nat_eq y) (present (map line xs)) ≡ true)
          → list_any (nat_eq y) (present (o ∷ map line xs)) ≡ true
      by true same h None at rest =
          absurd (none-some y (sym at ∙ ap line (sym (eqb-true pin x same)) ∙ is))
      by true same h (Some z) at rest =
          let equal : y ≡ z = same_Some y z (sym is ∙ ap line (eqb-true pin x same) ∙ at) in
          ap (λ b. b || list_any (nat_eq y) (present (map line xs))) (eq-eqb y z equal)
      by false same h None at rest = rest h
      by false same h (Some z) at rest =
          by_other (nat_eq y z) (list_any (nat_eq y) (present (map line xs))) (rest h)
        where
          by_other : (a c : Bool) → c ≡ true → (a || c) ≡ true
          by_other true c g = refl
          by_other false c g = g

  lines_apart : (pins : List ℕ) → list_all is_some (map line pins) ≡ true
      → differ (present (map line pins)) ≡ true → differ pins ≡ true
  lines_apart [] on apart = refl
  lines_apart (x ∷ xs) on apart = by (line x) refl on apart (lines_apart xs)
    where
      by : (o : Option ℕ) → line x ≡ o → (is_some o && list_all is_some (map line xs)) ≡ true
          → differ (present (o ∷ map line xs)) ≡ true
          → (list_all is_some (map line xs) ≡ true → differ (present (map line xs)) ≡ true
          → differ xs ≡ true) → differ (x ∷ xs) ≡ true
      by None at h g later = absurd (true≢false (sym h))
      by (Some y) at h g later =
          let new = left (is_new (present (map line xs)) y) _ g in
          let rest = later h (right (is_new (present (map line xs)) y) _ g) in
          by_new (list_any (nat_eq x) xs) refl new rest
        where
          by_new : (c : Bool) → list_any (nat_eq x) xs ≡ c
              → is_new (present (map line xs)) y ≡ true → differ xs ≡ true
              → (not c && differ xs) ≡ true
          by_new true has fresh rest =
              absurd (true≢false (sym fresh ∙ ap not (has_line xs x y at has)))
          by_new false has fresh rest = rest

all_differ : (xs : List ℕ) → differ xs ≡ true → AllDiffer xs
all_differ [] h a b less within same = let no : b < 0 = within in omega (arith, no)
all_differ (x ∷ xs) h zero zero less within same = omega (arith, less)
all_differ (x ∷ xs) h zero (suc b) less within same =
    let at = there_is xs b (omega (arith, within)) in
    let equal : x ≡ at.0 = same ∙ get_or_from_slice_get xs b at.0 0 at.1 in
    let has = any_at (nat_eq x) xs b at.0 at.1 (eq-eqb x at.0 equal) in
    true≢false (sym (left (is_new xs x) (differ xs) h) ∙ ap not has)
all_differ (x ∷ xs) h (suc a) zero less within same = omega (arith, less)
all_differ (x ∷ xs) h (suc a) (suc b) less within same =
    all_differ xs (right (is_new xs x) (differ xs) h) a b (omega (arith, less))
    (omega (arith, within)) same

own_inputs : (ty : SiteType) (bel : LutBel) → has_own_lines ty bel ≡ true
    → AllDiffer bel.input_pins
own_inputs ty bel own =
    all_differ bel.input_pins (lines_apart ty bel bel.input_pins (left _ _ own)
    (right (list_all is_some (input_lines ty bel)) _ own))

-- a BEL with inputs in a usable element, as the element lists it
usable_own : (rec : DeviceRec) (b : ℕ) (ty : SiteType) (bel : LutBel)
    → is_some (option_and_then (inputs_of_bel rec ty) (element_of_bel rec b ty)) ≡ true
    → lut_bel_in rec b ty ≡ Some bel → has_own_lines ty bel ≡ true
usable_own rec b ty bel some is = by (element_of_bel rec b ty) some is
  where
    by : (o : Option (ℕ × ℕ)) → is_some (option_and_then (inputs_of_bel rec ty) o) ≡ true
        → option_and_then (λ at. option_and_then (λ e. slice_get e.bels at.1)
        (slice_get (elements_of rec ty) at.0)) o ≡ Some bel → has_own_lines ty bel ≡ true
    by None h g = absurd (true≢false (sym h))
    by (Some at) h g = by_element (slice_get (elements_of rec ty) at.0) h g
      where
        by_element : (o : Option LutElement) → is_some (option_and_then (λ e.
            if is_usable ty e then option_map (λ l. length l.input_pins) (slice_get e.bels at.1)
            else None) o) ≡ true
            → option_and_then (λ e. slice_get e.bels at.1) o ≡ Some bel
            → has_own_lines ty bel ≡ true
        by_element None f d = absurd (true≢false (sym f))
        by_element (Some e) f d = by_usable (is_usable ty e) refl f
          where
            by_usable : (u : Bool) → is_usable ty e ≡ u → is_some (if u then option_map (λ l.
                length l.input_pins) (slice_get e.bels at.1) else None) ≡ true
                → has_own_lines ty bel ≡ true
            by_usable false usable k = absurd (true≢false (sym k))
            by_usable true usable k = passes (has_own_lines ty) e.bels at.1 bel d
                (right (nat_le (length e.bels) 8) _ (left _ (nat_le (length (distinct
                (flat_map (λ l. present (input_lines ty l)) e.bels))) 12) usable))

-- the inputs of a BEL that admits a LUT differ
pub inputs_apart : (rec : DeviceRec) (cell b : ℕ) (ty : SiteType) (pins : List (ℕ × ℕ))
    (lut : LutCell) (bel : LutBel) → pins_in rec cell b ty ≡ Some pins
    → lut_cell_of rec cell ≡ Some lut → lut_bel_in rec b ty ≡ Some bel → AllDiffer bel.input_pins
inputs_apart rec cell b ty pins lut bel is lut_is bel_is =
    let a = admits rec cell b ty pins is in
    let inputs : lut_inputs_of rec cell ≡ Some (length lut.input_pins) =
    ap (option_map (λ c. length c.input_pins)) lut_is in
    own_inputs ty bel (usable_own rec b ty bel (has_some (length lut.input_pins) _
    (ap (λ o. has_inputs o (option_and_then (inputs_of_bel rec ty) (element_of_bel rec b ty)))
    (sym inputs) ∙ a.takes)) bel_is)
  where
    has_some : (n : ℕ) (o : Option ℕ) → has_inputs (Some n) o ≡ true → is_some o ≡ true
    has_some n None h = h
    has_some n (Some m) h = refl

-- the same by names
pub inputs_differ : (rec : DeviceRec) (placement : CellPlacement) (lut : LutCell) (bel : LutBel)
    → IsSome (pins_at rec placement.ty placement.site placement.bel)
    → lut_cell_of rec placement.ty ≡ Some lut
    → lut_bel_at rec placement.site placement.bel ≡ Some bel → AllDiffer bel.input_pins
inputs_differ rec placement lut bel some lut_is bel_is =
    let at = is_placed rec placement.ty placement.site placement.bel some in
    let on = is_on rec placement.site placement.bel at.0.0 at.0.1 at.1 in
    let told = pins_there rec placement.site placement.bel at.0.0 at.0.1 on placement.ty
    ∙ ap (option_and_then (pins_in rec placement.ty at.0.1)) on.ty_is in
    let pins = value (pins_at rec placement.ty placement.site placement.bel) some in
    inputs_apart rec placement.ty at.0.1 on.ty pins.0 lut bel (sym told ∙ pins.1) lut_is
    (sym (ap (option_and_then (lut_bel_in rec at.0.1)) on.ty_is)
    ∙ sym (lut_bel_there rec placement.site placement.bel at.0.0 at.0.1 on) ∙ bel_is)
  where
    value : {A : Type 0} (o : Option A) → is_some o ≡ true → (x : A) × (o ≡ Some x)
    value None h = absurd (true≢false (sym h))
    value (Some x) h = (x, refl)
