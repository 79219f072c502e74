-- What the names of a placement lead to, where it is a cell's on its place.
use Rattle.std.proofs.Common.{◌≡◌, ◌∙◌, refl, ap, sym, subst, ℕ, suc}
use Rattle.std.proofs.Common.{true, ◌&&◌, nat_eq, List, [], ◌∷◌, map}
use Rattle.std.proofs.Common.{slice_get, Option, Some, None, option_map, option_and_then}
use Rattle.std.proofs.Common.{cond}
use Rattle.std.specs.Prelude.{unwrap_or, Contains}
use Rattle.std.specs.List.{All, AllByRecursion, list_any, list_all, find}
use Rattle.std.proofs.lemmas.Bool.{eqb-true}
use Rattle.std.proofs.lemmas.Option.{none-some, same_Some, slice_get-map, slice_get_within}
use Rattle.std.proofs.lemmas.Option.{get_or_from_slice_get, cond_some}
use Rattle.std.proofs.lemmas.List.Elements.{All-from_recursion, All-contains_itself}
use Rattle.std.proofs.lemmas.List.Sorted.{All-permutation}
use Rattle.ix_rec.specs.declared.device.DeviceRec.{DeviceRec}
use Rattle.ix_rec.specs.declared.device.SiteType.{SiteType}
use Rattle.ix_rec.specs.declared.device.Bel.{Bel}
use Rattle.ix_rec.specs.declared.device.BelPin.{BelPin}
use Rattle.ix_rec.specs.declared.device.CellBelMapping.{CellBelMapping}
use Rattle.ix_rec.specs.declared.device.CommonCellBelPinMaps.{CommonCellBelPinMaps}
use Rattle.ix_rec.specs.declared.device.CellBelPinEntry.{CellBelPinEntry}
use Rattle.ix_rec.specs.declared.phys.CellPlacement.{CellPlacement}
use Rattle.ix_rec.specs.declared.phys.PinMapping.{PinMapping}
use Rattle.ix_rec.specs.declared.flow.FlatCell.{FlatCell}
use Rattle.ix_device_rules.specs.Rules.{first_broken, is_pin_of, has_pin}
use Rattle.ix_device.specs.Lookups.{type_of_site, site_named, bel_in, pin_of_bel, bel_pin_in}
use Rattle.ix_device.specs.Admission.{pins_in, admitted, first_map, lists_bel, is_logic, fits_bel}
use Rattle.ix_device.specs.Admission.{pins_differ, takes_lut, numbered_pins}
use Rattle.ix_first_fit.specs.declared.cell.Spot.{Spot}
use Rattle.ix_first_fit.specs.Spots as fit
use Rattle.ix_first_fit.specs.Netlist.{bel_name, pin_told, pin_in, pin_wanted}
use Rattle.ix_first_fit.specs.Laws.{IsOnPlace}
use Rattle.ix_legal.specs.Sites.{type_at, of_bel, bel_at, bel_pin_at, pins_at}
use Rattle.ix_legal.specs.Placements.{IsOfDevice}
use Rattle.ix_fit_legal.proofs.Fresh.{and_left, and_right, place_of_any, position_at, any_of_found}
use Rattle.ix_fit_legal.proofs.ValidNames.{site_found, bel_found}

-- what is found in two steps was found in both
pub and_then_some : {A B : Type 0} (f : A → Option B) (o : Option A) (y : B)
    → option_and_then f o ≡ Some y → (x : A) × (o ≡ Some x) × (f x ≡ Some y)
and_then_some f None y h = absurd (none-some y h)
and_then_some f (Some x) y h = (x, refl, h)

pub map_some : {A B : Type 0} (f : A → B) (o : Option A) (y : B) → option_map f o ≡ Some y
    → (x : A) × (o ≡ Some x) × (f x ≡ y)
map_some f None y h = absurd (none-some y h)
map_some f (Some x) y h = (x, refl, same_Some (f x) y h)

-- two lists say the same at each place (as in ix_first_fit)
pub same_at : {A B C : Type 0} (f : A → C) (g : B → C) (xs : List A) (ys : List B) (k : ℕ) (x : A)
    → map f xs ≡ map g ys → slice_get xs k ≡ Some x
    → (y : B) × (slice_get ys k ≡ Some y) × (f x ≡ g y)
same_at f g xs ys k x h at =
    let there = map_some g (slice_get ys k) (f x) (sym (slice_get-map g ys k)
    ∙ (ap (λ l. slice_get l k) (sym h) ∙ (slice_get-map f xs k ∙ ap (option_map f) at))) in
    (there.0, there.1, sym there.2)

pub each_by_recursion : {A : Type 0} (P : A → Type 0) (xs : List A)
    → ((k : ℕ) (x : A) → slice_get xs k ≡ Some x → P x) → AllByRecursion P xs
each_by_recursion P [] each = tt
each_by_recursion P (x ∷ xs) each =
    (each 0 x refl, each_by_recursion P xs (λ k y at. each (suc k) y at))

-- the site type of a place, and its BEL of this name
pub record HasBel (rec : DeviceRec) (p : Spot) (bel : ℕ) : Type 0 where
  pub number : ℕ
  pub type_is : type_of_site rec p.site ≡ Some number
  pub site_type : SiteType
  pub site_type_is : slice_get rec.site_type_list number ≡ Some site_type
  pub at : Bel
  pub at_is : slice_get site_type.bels p.bel ≡ Some at
  pub name_is : at.name ≡ bel

has_bel : (rec : DeviceRec) (p : Spot) (bel : ℕ) → bel_name rec p ≡ Some bel → HasBel rec p bel
unfolding fit.type_at
has_bel rec p bel h =
    let in_type = and_then_some
    (λ (t : SiteType). option_map (λ (b : Bel). b.name) (slice_get t.bels p.bel))
    (fit.type_at rec p.site) bel h in
    let numbered = and_then_some (λ t. slice_get rec.site_type_list t)
    (type_of_site rec p.site) in_type.0 in_type.1 in
    let named = map_some (λ (b : Bel). b.name) (slice_get in_type.0.bels p.bel) bel in_type.2 in
    record {
      number = numbered.0;
      type_is = numbered.1;
      site_type = in_type.0;
      site_type_is = numbered.2;
      at = named.0;
      at_is = named.1;
      name_is = named.2;
    }

pub record Leads (rec : DeviceRec) (m : CellPlacement) (p : Spot) : Type 0 where
  pub has : HasBel rec p m.bel
  pub site_is : site_named rec m.site ≡ Some p.site
  pub bel_is : bel_in m.bel has.site_type ≡ Some p.bel

pub leads : (rec : DeviceRec) → first_broken rec ≡ None → (c : FlatCell) (p : Spot)
    (m : CellPlacement) → IsOnPlace rec c p m → Leads rec m p
leads rec valid c p m on = let has = has_bel rec p m.bel on.bel in record {
  has = has;
  site_is = site_found rec valid p.site m.site on.site;
  bel_is = subst (λ name. bel_in name has.site_type ≡ Some p.bel) has.name_is
      (bel_found rec valid has.number has.site_type has.site_type_is p.bel has.at has.at_is);
}

module _ (rec : DeviceRec) (m : CellPlacement) (p : Spot) (is : Leads rec m p) where
  -- the number of the site type
  pub type_at_is : type_at rec m.site ≡ Some is.has.number
  type_at_is = ap (option_and_then (type_of_site rec)) is.site_is ∙ is.has.type_is

  -- what is told of the BEL is told by its number, of the site type
  pub of_bel_is : {A : Type 0} (tell : ℕ → SiteType → Option A)
      → of_bel rec m.site m.bel tell ≡ tell p.bel is.has.site_type
  of_bel_is tell = ap (λ o. option_and_then (λ t. option_and_then
      (λ u. option_and_then (λ b. tell b u) (bel_in m.bel u)) (slice_get rec.site_type_list t)) o)
      type_at_is
      ∙ (ap (option_and_then (λ u. option_and_then (λ b. tell b u) (bel_in m.bel u)))
      is.has.site_type_is
      ∙ ap (option_and_then (λ b. tell b is.has.site_type)) is.bel_is)

  pub bel_at_is : bel_at rec m.site m.bel ≡ Some p.bel
  bel_at_is = ap (λ o. option_and_then (λ t. option_and_then (bel_in m.bel)
      (slice_get rec.site_type_list t)) o) type_at_is
      ∙ (ap (option_and_then (bel_in m.bel)) is.has.site_type_is ∙ is.bel_is)

  type_there : fit.type_at rec p.site ≡ Some is.has.site_type
  unfolding fit.type_at
  type_there = ap (option_and_then (λ t. slice_get rec.site_type_list t)) is.has.type_is
      ∙ is.has.site_type_is

  pins_there : (ty : ℕ) → fit.pins_at rec ty p ≡ pins_in rec ty p.bel is.has.site_type
  unfolding fit.pins_at
  pins_there ty = ap (option_and_then (λ t. pins_in rec ty p.bel t)) type_there

  -- the pins by which the BEL takes the cell's type
  pub pins_given : (ty : ℕ) (given : List (ℕ × ℕ)) → m.ty ≡ ty
      → fit.pins_at rec ty p ≡ Some given → pins_at rec m.ty m.site m.bel ≡ Some given
  pins_given ty given of h = of_bel_is (pins_in rec m.ty)
      ∙ (ap (λ t. pins_in rec t p.bel is.has.site_type) of ∙ (sym (pins_there ty) ∙ h))

-- The pins of a map of the device are found by their names.
abbrev IsFound : SiteType → (bel : ℕ) → ℕ × ℕ → Type 0
IsFound t bel pin = (q : BelPin) → slice_get t.bel_pins pin.1 ≡ Some q
    → pin_of_bel bel q.name t ≡ Some pin.1

entry_found : (t : SiteType) (bel name : ℕ) → has_pin t bel name ≡ true → (q : BelPin)
    → slice_get t.bel_pins (unwrap_or (pin_of_bel bel name t) 0) ≡ Some q
    → pin_of_bel bel q.name t ≡ Some (unwrap_or (pin_of_bel bel name t) 0)
entry_found t bel name has q at =
    let found = place_of_any (is_pin_of bel name) t.bel_pins has in
    let there = position_at (is_pin_of bel name) t.bel_pins found.0 found.1 in
    let here : slice_get t.bel_pins found.0 ≡ Some q =
    ap (λ o. slice_get t.bel_pins (unwrap_or o 0)) (sym found.1) ∙ at in
    let same : there.0 ≡ q = same_Some there.0 q (sym there.1 ∙ here) in
    let named : q.name ≡ name = ap (λ (x : BelPin). x.name) (sym same)
    ∙ eqb-true there.0.name name
    (and_right (nat_eq there.0.bel bel) (nat_eq there.0.name name) there.2) in
    ap (λ n. pin_of_bel bel n t) named ∙ (found.1 ∙ ap (λ o. Some (unwrap_or o 0)) (sym found.1))

all_found : (t : SiteType) (bel : ℕ) (pins : List CellBelPinEntry)
    → list_all (λ e. has_pin t bel e.bel_pin) pins ≡ true
    → AllByRecursion (IsFound t bel) (numbered_pins t bel pins)
all_found t bel [] h = tt
all_found t bel (e ∷ es) h = (
  entry_found t bel e.bel_pin
      (and_left (has_pin t bel e.bel_pin) (list_all (λ d. has_pin t bel d.bel_pin) es) h),
  all_found t bel es
      (and_right (has_pin t bel e.bel_pin) (list_all (λ d. has_pin t bel d.bel_pin) es) h),
)

-- the device's own map for a cell type on a BEL
record Admits (rec : DeviceRec) (ty bel : ℕ) (t : SiteType) (given : List (ℕ × ℕ)) : Type 0 where
  at : Bel
  at_is : slice_get t.bels bel ≡ Some at
  pins : List CellBelPinEntry
  named : list_all (λ e. has_pin t at.name e.bel_pin) pins ≡ true
  numbered : numbered_pins t at.name pins ≡ given
  listed : list_any (λ m. nat_eq m.cell ty) rec.cell_bel_map ≡ true

admits : (rec : DeviceRec) (ty bel : ℕ) (t : SiteType) (given : List (ℕ × ℕ))
    → pins_in rec ty bel t ≡ Some given → Admits rec ty bel t given
unfolding pins_in
admits rec ty bel t given h =
    let at = and_then_some (admitted rec ty t bel) (slice_get t.bels bel) given h in
    let b : Bel = at.0 in
    let listed = and_then_some (λ (m : CommonCellBelPinMaps). cond
    (is_logic b.category && fits_bel t b.name m.pins && takes_lut rec ty t bel)
    (Some (numbered_pins t b.name m.pins)) None) (first_map rec ty t b.name) given at.2 in
    let m : CommonCellBelPinMaps = listed.0 in
    let fits = cond_some
    (is_logic b.category && fits_bel t b.name m.pins && takes_lut rec ty t bel)
    (numbered_pins t b.name m.pins) given listed.2 in
    let of_type = and_then_some
    (λ (n : CellBelMapping). find (lists_bel t b.name) n.common_pins)
    (find (λ n. nat_eq n.cell ty) rec.cell_bel_map) m listed.1 in record {
      at = b;
      at_is = at.1;
      pins = m.pins;
      named = and_right (pins_differ m.pins) (list_all (λ e. has_pin t b.name e.bel_pin) m.pins)
          (and_right (is_logic b.category) (fits_bel t b.name m.pins)
          (and_left (is_logic b.category && fits_bel t b.name m.pins) (takes_lut rec ty t bel)
          fits.0));
      numbered = fits.1;
      listed = any_of_found (λ n. nat_eq n.cell ty) rec.cell_bel_map of_type.0 of_type.1;
    }

module _ (rec : DeviceRec) (c : FlatCell) (p : Spot) (m : CellPlacement)
    (on : IsOnPlace rec c p m) (is : Leads rec m p) where
  taken : Admits rec c.ty p.bel is.has.site_type on.pins.given
  taken = admits rec c.ty p.bel is.has.site_type on.pins.given
      (sym (pins_there rec m p is c.ty) ∙ on.pins.given_is)

  -- the cell's type is listed
  pub type_listed : list_any (λ n. nat_eq n.cell m.ty) rec.cell_bel_map ≡ true
  type_listed = ap (λ ty. list_any (λ (n : CellBelMapping). nat_eq n.cell ty) rec.cell_bel_map)
      on.ty ∙ taken.listed

  pub pins_are : pins_at rec m.ty m.site m.bel ≡ Some on.pins.given
  pins_are = pins_given rec m p is c.ty on.pins.given on.ty on.pins.given_is

  -- an entry of the pin map: its BEL, and its pin in the device's own map
  pub record IsEntry (e : PinMapping) : Type 0 where
    pub own_bel : e.bel ≡ m.bel
    pub of_device : IsOfDevice rec m e

  given_found : All (IsFound is.has.site_type taken.at.name) on.pins.given
  given_found = subst (All (IsFound is.has.site_type taken.at.name)) taken.numbered
      (All-from_recursion (IsFound is.has.site_type taken.at.name)
      (numbered_pins is.has.site_type taken.at.name taken.pins)
      (all_found is.has.site_type taken.at.name taken.pins taken.named))

  sorted_found : All (IsFound is.has.site_type taken.at.name) on.pins.sorted
  sorted_found = All-permutation (IsFound is.has.site_type taken.at.name) on.pins.given
      on.pins.sorted on.pins.same given_found

  sorted_given : All (Contains on.pins.given) on.pins.sorted
  sorted_given = All-permutation (Contains on.pins.given) on.pins.given on.pins.sorted
      on.pins.same (All-contains_itself on.pins.given)

  at_index : {A : Type 0} (P : A → Type 0) (xs : List A) (k : ℕ) (x : A) → All P xs
      → slice_get xs k ≡ Some x → P x
  at_index P xs k x all at = subst P (get_or_from_slice_get xs k x x at)
      (all k x (slice_get_within xs k x at))

  pub is_entry : (k : ℕ) (e : PinMapping) → slice_get m.pin_map k ≡ Some e → IsEntry e
  is_entry k e at =
      let t : SiteType = is.has.site_type in
      let same = same_at pin_told (λ pin. pin_wanted rec p.site m.bel pin) m.pin_map on.pins.sorted
      k e on.pins.told at in
      let pin : ℕ × ℕ = same.0 in
      let wanted : pin_wanted rec p.site m.bel pin ≡ pin_in t m.bel pin =
      ap (option_and_then (λ (u : SiteType). pin_in u m.bel pin)) (type_there rec m p is) in
      let there = map_some (λ (q : BelPin). (pin.0, m.bel, q.name)) (slice_get t.bel_pins pin.1)
      (e.cell_pin, e.bel, e.bel_pin) (sym wanted ∙ sym same.2) in
      let q : BelPin = there.0 in
      let cell_pin : pin.0 ≡ e.cell_pin = ap (λ (x : ℕ × ℕ × ℕ). x.0) there.2 in
      let bel : m.bel ≡ e.bel = ap (λ (x : ℕ × ℕ × ℕ). x.1) there.2 in
      let bel_pin : q.name ≡ e.bel_pin = ap (λ (x : ℕ × ℕ × ℕ). x.2) there.2 in
      let found : pin_of_bel taken.at.name q.name t ≡ Some pin.1 =
      at_index (IsFound t taken.at.name) on.pins.sorted k pin sorted_found same.1 q there.1 in
      let in_bel : bel_pin_in p.bel q.name t ≡ Some pin.1 =
      ap (option_and_then (λ (b : Bel). pin_of_bel b.name q.name t)) taken.at_is ∙ found in
      let named : bel_pin_at rec m.site m.bel q.name ≡ Some pin.1 =
      of_bel_is rec m p is (λ b. bel_pin_in b q.name) ∙ in_bel in record {
        own_bel = sym bel;
        of_device = record {
          pins = on.pins.given;
          pins_are = pins_are;
          pin = pin.1;
          pin_is = ap (λ n. bel_pin_at rec m.site n e.bel_pin) (sym bel)
              ∙ (ap (λ n. bel_pin_at rec m.site m.bel n) (sym bel_pin) ∙ named);
          listed = subst (λ n. Contains on.pins.given (n, pin.1)) cell_pin
              (at_index (Contains on.pins.given) on.pins.sorted k pin sorted_given same.1);
        };
      }
