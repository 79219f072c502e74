-- The BEL pins of a cell's pins.
use Rattle.std.proofs.Common.{◌≡◌, ◌<◌, ◌∙◌, refl, ap, sym, subst, ℕ, zero, suc, arith}
use Rattle.std.proofs.Common.{List, [], ◌∷◌, length, map, slice_get, Option, Some, None, IfSome}
use Rattle.std.proofs.Common.{option_map, option_and_then, Bool, true, false, true≢false}
use Rattle.std.proofs.Common.{not, nat_eq, ◌&&◌, ◌||◌, if◌then◌else◌, is_some}
use Rattle.std.specs.Prelude.{unwrap_or}
use Rattle.std.specs.List.{AllByRecursion, find, list_any, list_all, position}
use Rattle.std.proofs.lemmas.Bool.{eqb-true, eq-eqb}
use Rattle.std.proofs.lemmas.Option.{none-some, same_Some, slice_get_within}
use Rattle.ix_rec.specs.declared.device.Bel.{Bel}
use Rattle.ix_rec.specs.declared.device.CellBelMapping.{CellBelMapping}
use Rattle.ix_rec.specs.declared.device.CellBelPinEntry.{CellBelPinEntry}
use Rattle.ix_rec.specs.declared.device.CommonCellBelPinMaps.{CommonCellBelPinMaps}
use Rattle.ix_rec.specs.declared.device.DeviceRec.{DeviceRec}
use Rattle.ix_rec.specs.declared.device.SiteType.{SiteType}
use Rattle.ix_rec.specs.declared.phys.CellPlacement.{CellPlacement}
use Rattle.ix_device_rules.specs.Rules.{is_new, is_pin_of, has_pin}
use Rattle.ix_device.specs.Lookups.{in_type, bel_in, pin_of_bel}
use Rattle.ix_device.specs.Elements.{differ}
use Rattle.ix_device.specs.Admission.{admitted, first_map, fits_bel, is_logic, numbered_pins}
use Rattle.ix_device.specs.Admission.{lists_bel, pins_in, takes_lut, pins_differ}
use Rattle.ix_device_read.specs.Named.{DeviceNamed, CellBelMappingNamed}
use Rattle.ix_device_read.specs.Named.{CommonCellBelPinMapsNamed, CellBelPinEntryNamed}
use Rattle.ix_device.proofs.OptionLemmas.{position-at, list_any-position}
use Rattle.ix_device.proofs.Walks.{any_at}
use Rattle.ix_legal.specs.Sites.{type_at, in_site, of_bel, pins_at, lut_cell_of}
use Rattle.ix_ends.proofs.Items.{chained}
use Rattle.ix_pin_maps.proofs.Admission.{IsOn, pins_differ_in}
use Rattle.ix_extract.specs.Extracted.{bel_pin_of, by_map, is_lut_input}
use Rattle.ix_extract.specs.Taken.{IsBelPinOf}

both_left : (a b : Bool) → (a && b) ≡ true → a ≡ true
both_left true b h = refl
both_left false b h = h

both_right : (a b : Bool) → (a && b) ≡ true → b ≡ true
both_right true b h = h
both_right false true h = refl
both_right false false h = h

-- Lists.

-- what is found stands at a place, and passes
pub find_place : {A : Type 0} (p : A → Bool) (xs : List A) (x : A) → find p xs ≡ Some x
    → (i : ℕ) × (slice_get xs i ≡ Some x) × (p x ≡ true)
find_place p [] x h = absurd (none-some x h)
find_place {A} p (y ∷ ys) x h = by (p y) refl h (find_place p ys x)
  where
    by : (b : Bool) → p y ≡ b → (if b then Some y else find p ys) ≡ Some x
        → (find p ys ≡ Some x → (i : ℕ) × (slice_get ys i ≡ Some x) × (p x ≡ true))
        → (i : ℕ) × (slice_get (y ∷ ys) i ≡ Some x) × (p x ≡ true)
    by true is e rest = (0, e, ap p (sym (same_Some y x e)) ∙ is)
    by false is e rest = let r = rest e in (suc r.0, r.1, r.2)

pub any_place : (x : ℕ) (xs : List ℕ) → list_any (nat_eq x) xs ≡ true
    → (i : ℕ) × (slice_get xs i ≡ Some x)
any_place x [] h = absurd (true≢false (sym h))
any_place x (y ∷ ys) h = by (nat_eq x y) refl h (any_place x ys)
  where
    by : (b : Bool) → nat_eq x y ≡ b → (b || list_any (nat_eq x) ys) ≡ true
        → (list_any (nat_eq x) ys ≡ true → (i : ℕ) × (slice_get ys i ≡ Some x))
        → (i : ℕ) × (slice_get (y ∷ ys) i ≡ Some x)
    by true is e rest = (0, ap Some (sym (eqb-true x y is)))
    by false is e rest = let r = rest e in (suc r.0, r.1)

-- where an item passes there is a first place
place_of_any : {X : Type 0} (p : X → Bool) (xs : List X) → list_any p xs ≡ true
    → (k : ℕ) × (position p xs ≡ Some k)
place_of_any p xs h = value (position p xs) (sym (list_any-position p xs) ∙ h)
  where
    value : (o : Option ℕ) → is_some o ≡ true → (k : ℕ) × (o ≡ Some k)
    value None e = absurd (true≢false (sym e))
    value (Some k) e = (k, refl)

abbrev pub Pins : Type 0
Pins = List (ℕ × ℕ)

abbrev names_of : Pins → List ℕ
names_of pins = map (λ p. p.0) pins

named_at : (pins : Pins) (i : ℕ) (e : ℕ × ℕ) → slice_get pins i ≡ Some e
    → slice_get (names_of pins) i ≡ Some e.0
named_at [] i e at = absurd (none-some e at)
named_at (p ∷ ps) zero e at = ap (option_map (λ (x : ℕ × ℕ). x.0)) at
named_at (p ∷ ps) (suc i) e at = named_at ps i e at

-- an entry of a list without two of one name is found by its name
pub found_by_name : (pins : Pins) → differ (names_of pins) ≡ true → (i : ℕ) (e : ℕ × ℕ)
    → slice_get pins i ≡ Some e → find (λ p. nat_eq p.0 e.0) pins ≡ Some e
found_by_name [] apart i e at = absurd (none-some e at)
found_by_name (p ∷ ps) apart zero e at =
    let same : p.0 ≡ e.0 = ap (λ (x : ℕ × ℕ). x.0) (same_Some p e at) in
    ap (λ b. if b then Some p else find (λ q. nat_eq q.0 e.0) ps) (eq-eqb p.0 e.0 same) ∙ at
found_by_name (p ∷ ps) apart (suc i) e at = by (nat_eq p.0 e.0) refl (found_by_name ps
    (both_right (is_new (names_of ps) p.0) (differ (names_of ps)) apart) i e at)
  where
    by : (b : Bool) → nat_eq p.0 e.0 ≡ b → find (λ q. nat_eq q.0 e.0) ps ≡ Some e
        → (if nat_eq p.0 e.0 then Some p else find (λ q. nat_eq q.0 e.0) ps) ≡ Some e
    by false is later =
        ap (λ b. if b then Some p else find (λ q. nat_eq q.0 e.0) ps) is ∙ later
    by true is later = absurd (true≢false (sym (both_left (is_new (names_of ps) p.0)
        (differ (names_of ps)) apart) ∙ ap not (any_at (nat_eq p.0) (names_of ps) i e.0
        (named_at ps i e at) is)))

-- The pin map by which a BEL admits a cell.

-- each of its pins is one of the site type's
all_inside : (t : SiteType) (bel : ℕ) (entries : List CellBelPinEntry)
    → list_all (λ p. has_pin t bel p.bel_pin) entries ≡ true → (i : ℕ) (e : ℕ × ℕ)
    → slice_get (numbered_pins t bel entries) i ≡ Some e → e.1 < length t.bel_pins
all_inside t bel [] fit i e at = absurd (none-some e at)
all_inside t bel (p ∷ ps) fit (suc i) e at =
    all_inside t bel ps (both_right (has_pin t bel p.bel_pin) _ fit) i e at
all_inside t bel (p ∷ ps) fit zero e at =
    let n = place_of_any (is_pin_of bel p.bel_pin) t.bel_pins
    (both_left (has_pin t bel p.bel_pin) (list_all (λ q. has_pin t bel q.bel_pin) ps) fit) in
    let there = position-at (is_pin_of bel p.bel_pin) t.bel_pins n.0 n.1 in
    let less = slice_get_within t.bel_pins n.0 there.0 there.1 in
    let same : n.0 ≡ e.1 = ap (λ o. unwrap_or o 0) (sym n.1)
    ∙ ap (λ (x : ℕ × ℕ). x.1) (same_Some (paired (pin_of_bel bel p.bel_pin t)) e at) in
    omega (arith, same, less)
  where
    paired : Option ℕ → ℕ × ℕ
    paired o = (p.cell_pin, unwrap_or o 0)

-- so it is told by its parts
module _ (rec : DeviceRec) (cell b : ℕ) (ty : SiteType) where
  pub pins_inside : (pins : Pins) → pins_in rec cell b ty ≡ Some pins → (i : ℕ) (e : ℕ × ℕ)
      → slice_get pins i ≡ Some e → e.1 < length ty.bel_pins
  unfolding pins_in
  pins_inside pins is i e at =
      let of = chained (admitted rec cell ty b) (slice_get ty.bels b) pins is in
      let m = chained (λ (m : CommonCellBelPinMaps).
      if is_logic of.0.category && fits_bel ty of.0.name m.pins && takes_lut rec cell ty b
      then Some (numbered_pins ty of.0.name m.pins) else None) (first_map rec cell ty of.0.name)
      pins of.2 in
      by of.0 m.0 (is_logic of.0.category && fits_bel ty of.0.name m.0.pins
      && takes_lut rec cell ty b) refl m.2
    where
      by : (of : Bel) (m : CommonCellBelPinMaps) (test : Bool)
          → (is_logic of.category && fits_bel ty of.name m.pins && takes_lut rec cell ty b) ≡ test
          → (if test then Some (numbered_pins ty of.name m.pins) else None) ≡ Some pins
          → e.1 < length ty.bel_pins
      by of m false test h = absurd (none-some pins h)
      by of m true test h = all_inside ty of.name m.pins
          (both_right (pins_differ m.pins) _ (both_right (is_logic of.category) _
          (both_left (is_logic of.category && fits_bel ty of.name m.pins) _ test))) i e
          (ap (λ l. slice_get l i) (same_Some _ pins h) ∙ at)

-- and each has a name of the device
found_keeps : {A : Type 0} (P : A → Type 0) (test : A → Bool) (xs : List A) (x : A)
    → AllByRecursion P xs → find test xs ≡ Some x → P x
found_keeps P test [] x all h = absurd (none-some x h)
found_keeps {A} P test (y ∷ ys) x all h = by (test y) h (found_keeps P test ys x all.1)
  where
    by : (b : Bool) → (if b then Some y else find test ys) ≡ Some x
        → (find test ys ≡ Some x → P x) → P x
    by true e later = subst P (same_Some y x e) all.0
    by false e later = later e

entries_named : (n : ℕ) (t : SiteType) (bel : ℕ) (entries : List CellBelPinEntry)
    → AllByRecursion (CellBelPinEntryNamed n) entries → (i : ℕ) (e : ℕ × ℕ)
    → slice_get (numbered_pins t bel entries) i ≡ Some e → e.0 < n
entries_named n t bel [] all i e at = absurd (none-some e at)
entries_named n t bel (p ∷ ps) all zero e at =
    subst (λ k. k < n) (ap (λ (x : ℕ × ℕ). x.0) (same_Some _ e at)) all.0.cell_pin
entries_named n t bel (p ∷ ps) all (suc i) e at = entries_named n t bel ps all.1 i e at

pub pins_named : (n : ℕ) (rec : DeviceRec) (cell b : ℕ) (ty : SiteType) → DeviceNamed n rec
    → (pins : Pins) → pins_in rec cell b ty ≡ Some pins → (i : ℕ) (e : ℕ × ℕ)
    → slice_get pins i ≡ Some e → e.0 < n
unfolding pins_in
pins_named n rec cell b ty named pins is i e at =
    let of = chained (admitted rec cell ty b) (slice_get ty.bels b) pins is in
    let m = chained (λ (m : CommonCellBelPinMaps).
    if is_logic of.0.category && fits_bel ty of.0.name m.pins && takes_lut rec cell ty b
    then Some (numbered_pins ty of.0.name m.pins) else None) (first_map rec cell ty of.0.name)
    pins of.2 in
    let c = chained (λ (c : CellBelMapping). find (lists_bel ty of.0.name) c.common_pins)
    (find (λ c. nat_eq c.cell cell) rec.cell_bel_map) m.0 m.1 in
    let mapping = found_keeps (CellBelMappingNamed n) (λ (c : CellBelMapping). nat_eq c.cell cell)
    rec.cell_bel_map c.0 named.cell_bel_map c.1 in
    let map_named = found_keeps (CommonCellBelPinMapsNamed n) (lists_bel ty of.0.name)
    c.0.common_pins m.0 mapping.common_pins c.2 in
    by of.0 m.0 map_named (is_logic of.0.category && fits_bel ty of.0.name m.0.pins
    && takes_lut rec cell ty b) m.2
  where
    by : (of : Bel) (m : CommonCellBelPinMaps) → CommonCellBelPinMapsNamed n m → (test : Bool)
        → (if test then Some (numbered_pins ty of.name m.pins) else None) ≡ Some pins → e.0 < n
    by of m all false h = absurd (none-some pins h)
    by of m all true h = entries_named n ty of.name m.pins all.pins i e
        (ap (λ l. slice_get l i) (same_Some _ pins h) ∙ at)

-- By names.
pub record IsAdmitted (rec : DeviceRec) (cell site bel : ℕ) (pins : Pins) : Type 0 where
  pub t : ℕ
  pub b : ℕ
  pub ty : SiteType
  pub type_is : type_at rec site ≡ Some t
  pub ty_is : slice_get rec.site_type_list t ≡ Some ty
  pub pins_are : pins_in rec cell b ty ≡ Some pins

pub is_admitted : (rec : DeviceRec) (cell site bel : ℕ) (pins : Pins)
    → pins_at rec cell site bel ≡ Some pins → IsAdmitted rec cell site bel pins
is_admitted rec cell site bel pins are =
    let u = chained (λ u. option_and_then (λ (ty : SiteType). option_and_then (λ b.
    pins_in rec cell b ty) (bel_in bel ty)) (slice_get rec.site_type_list u))
    (type_at rec site) pins are in
    let ty = chained (λ (ty : SiteType). option_and_then (λ b. pins_in rec cell b ty)
    (bel_in bel ty)) (slice_get rec.site_type_list u.0) pins u.2 in
    let b = chained (λ b. pins_in rec cell b ty.0) (bel_in bel ty.0) pins ty.2 in
    record {
      t = u.0;
      b = b.0;
      ty = ty.0;
      type_is = u.1;
      ty_is = ty.1;
      pins_are = b.2;
    }

-- Of a placement on a site of a type.
module _ (rec : DeviceRec) (site t : ℕ) (type_is : type_at rec site ≡ Some t) where
  pub in_site_is : {A : Type 0} (tell : SiteType → Option A)
      → in_site rec site tell ≡ in_type tell rec t
  in_site_is tell = ap (option_and_then (λ u. option_and_then tell
      (slice_get rec.site_type_list u))) type_is

  -- a BEL of this name, by number
  pub on_bel : (bel b : ℕ) → in_type (bel_in bel) rec t ≡ Some b → IsOn rec site bel t b
  on_bel bel b is = let ty = chained (bel_in bel) (slice_get rec.site_type_list t) b is in
      record { type_is = type_is; ty = ty.0; ty_is = ty.1; bel_is = ty.2 }

  -- no BEL of this name
  pub no_bel : {A : Type 0} (bel : ℕ) (tell : ℕ → SiteType → Option A)
      → in_type (bel_in bel) rec t ≡ None → of_bel rec site bel tell ≡ None
  no_bel {A} bel tell none = in_site_is (λ u. option_and_then (λ b. tell b u) (bel_in bel u))
      ∙ by (slice_get rec.site_type_list t) none
    where
      by : (o : Option SiteType) → option_and_then (bel_in bel) o ≡ None
          → option_and_then (λ u. option_and_then (λ b. tell b u) (bel_in bel u)) o ≡ None
      by None h = refl
      by (Some u) h = ap (option_and_then (λ b. tell b u)) h

  -- the pins by which a BEL takes a cell
  module _ (cell bel : ℕ) (pins : Pins) (are : pins_at rec cell site bel ≡ Some pins) (i : ℕ)
      (e : ℕ × ℕ) (at : slice_get pins i ≡ Some e) where
    found : IsAdmitted rec cell site bel pins
    found = is_admitted rec cell site bel pins are

    pub listed_inside : IsBelPinOf rec t e.1
    listed_inside =
        let f = found in
        let same : f.t ≡ t = same_Some f.t t (sym f.type_is ∙ type_is) in
        subst (λ (o : Option SiteType). IfSome o (λ ty. e.1 < length ty.bel_pins))
        (sym (sym (ap (slice_get rec.site_type_list) same) ∙ f.ty_is))
        (pins_inside rec cell f.b f.ty pins f.pins_are i e at)

    pub listed_found : find (λ p. nat_eq p.0 e.0) pins ≡ Some e
    listed_found = let f = found in
        found_by_name pins (pins_differ_in rec cell f.b f.ty pins f.pins_are) i e at

-- By which map a pin goes.
module _ (rec : DeviceRec) (placement : CellPlacement) (pin : ℕ) where
  pub goes_by : (b : Bool) → is_lut_input (lut_cell_of rec placement.ty) pin ≡ b
      → bel_pin_of rec placement pin ≡ by_map b rec placement pin
  goes_by b is = ap (λ c. by_map c rec placement pin) is

  -- by the device's
  pub by_device : (pins : Pins) → pins_at rec placement.ty placement.site placement.bel ≡ Some pins
      → is_lut_input (lut_cell_of rec placement.ty) pin ≡ false
      → bel_pin_of rec placement pin ≡ option_map (λ e. e.1) (find (λ e. nat_eq e.0 pin) pins)
  by_device pins are other = goes_by false other ∙ ap (option_and_then (λ (l : Pins).
      option_map (λ e. e.1) (find (λ e. nat_eq e.0 pin) l))) are

  pub by_no_device : pins_at rec placement.ty placement.site placement.bel ≡ None
      → is_lut_input (lut_cell_of rec placement.ty) pin ≡ false
      → bel_pin_of rec placement pin ≡ None
  by_no_device none other = goes_by false other ∙ ap (option_and_then (λ (l : Pins).
      option_map (λ e. e.1) (find (λ e. nat_eq e.0 pin) l))) none
