-- A BEL in an element of a site, by names and by numbers.
use Rattle.std.proofs.Common.{◌≡◌, ◌<◌, ◌∙◌, refl, ap, sym, ℕ, List, length, slice_get}
use Rattle.std.proofs.Common.{Option, Some, None, option_map, option_and_then, Bool, true, false}
use Rattle.std.proofs.Common.{nat_eq, if◌then◌else◌}
use Rattle.std.specs.List.{position, list_any}
use Rattle.std.proofs.lemmas.Bool.{eqb-true}
use Rattle.std.proofs.lemmas.Option.{none-some, same_Some, slice_get_within}
use Rattle.ix_num.specs.declared.resource.Res.TheVariants.{Wire}
use Rattle.ix_rec.specs.declared.device.Bel.{Bel}
use Rattle.ix_rec.specs.declared.device.DeviceRec.{DeviceRec}
use Rattle.ix_rec.specs.declared.device.LutBel.{LutBel}
use Rattle.ix_rec.specs.declared.device.LutElement.{LutElement}
use Rattle.ix_rec.specs.declared.device.SiteType.{SiteType}
use Rattle.ix_device_rules.specs.Rules.{element_has}
use Rattle.ix_device.specs.Lookups.{type_of_site, in_type, bel_in, bel_pin_in, wire_in}
use Rattle.ix_device.specs.Lookups.{pin_of_bel}
use Rattle.ix_device.specs.Elements.{elements_of, element_of_bel, is_usable, place_in}
use Rattle.ix_device.specs.Elements.{place_in_element}
use Rattle.ix_device.specs.Shapes.{ShapeSeen, shape_in, shape_of, usable_shape, lines_of}
use Rattle.ix_device.proofs.OptionLemmas.{position-at}
use Rattle.ix_legal.specs.Sites.{type_at, in_site, of_bel, element_at, lut_bel_at, shape_at}
use Rattle.ix_legal.specs.Sites.{lines_at, elements_at}
use Rattle.ix_ends.specs.Ends.{IsThere}
use Rattle.ix_ends.proofs.Items.{mapped, chained}
use Rattle.ix_lut_places.specs.Places.{lut_bel_in}
use Rattle.ix_placed_luts.specs.Tied.{wire_of_input}
use Rattle.ix_placed_luts.proofs.Elements.{wire_named}

-- A BEL of a site type, at a place of an element of this shape.
pub record IsInType (rec : DeviceRec) (ty : SiteType) (b element place : ℕ) (lut_bel : LutBel)
    (shape : ShapeSeen) : Type 0 where
  pub in_element : element_of_bel rec b ty ≡ Some (element, place)
  pub e : LutElement
  pub e_is : slice_get (elements_of rec ty) element ≡ Some e
  pub lut_bel_is : slice_get e.bels place ≡ Some lut_bel
  pub usable : is_usable ty e ≡ true
  pub shape_is : shape_of ty e ≡ shape

-- the same of a BEL of a site, by names
pub record IsInSite (rec : DeviceRec) (site bel t b element place : ℕ) (lut_bel : LutBel)
    (shape : ShapeSeen) : Type 0 where
  pub type_is : type_at rec site ≡ Some t
  pub ty : SiteType
  pub ty_is : slice_get rec.site_type_list t ≡ Some ty
  pub bel_is : bel_in bel ty ≡ Some b
  pub in_type_is : IsInType rec ty b element place lut_bel shape

-- Of a site type.
module _ (rec : DeviceRec) (ty : SiteType) (b element place : ℕ) where
  pub the_lut_bel : (at : ℕ × ℕ) → element_of_bel rec b ty ≡ Some at
      → lut_bel_in rec b ty ≡ option_and_then (λ (e : LutElement). slice_get e.bels at.1)
      (slice_get (elements_of rec ty) at.0)
  the_lut_bel at is = ap (option_and_then (λ (at : ℕ × ℕ). option_and_then (λ (e : LutElement).
      slice_get e.bels at.1) (slice_get (elements_of rec ty) at.0))) is

  pub typed : (lut_bel : LutBel) (shape : ShapeSeen)
      → element_of_bel rec b ty ≡ Some (element, place) → lut_bel_in rec b ty ≡ Some lut_bel
      → shape_in rec element ty ≡ Some shape → IsInType rec ty b element place lut_bel shape
  typed lut_bel shape in_element lut_bel_is shape_is =
      let e = chained (usable_shape ty) (slice_get (elements_of rec ty) element) shape shape_is in
      by e.0 e.1 (is_usable ty e.0) refl e.2
    where
      by : (e : LutElement) → slice_get (elements_of rec ty) element ≡ Some e → (u : Bool)
          → is_usable ty e ≡ u → (if u then Some (shape_of ty e) else None) ≡ Some shape
          → IsInType rec ty b element place lut_bel shape
      by e e_is false usable h = absurd (none-some shape h)
      by e e_is true usable h = record {
        in_element = in_element;
        e = e;
        e_is = e_is;
        lut_bel_is = sym (the_lut_bel (element, place) in_element
            ∙ ap (option_and_then (λ (e : LutElement). slice_get e.bels place)) e_is)
            ∙ lut_bel_is;
        usable = usable;
        shape_is = same_Some (shape_of ty e) shape h;
      }

  module _ (lut_bel : LutBel) (shape : ShapeSeen)
      (is : IsInType rec ty b element place lut_bel shape) where
    -- its name is that of the BEL
    name_is : (x : Bel) → slice_get ty.bels b ≡ Some x → lut_bel.name ≡ x.name
    name_is x x_is =
        let k = chained (λ k. option_map (λ j. (k, j))
        (option_and_then (place_in_element x.name) (slice_get (elements_of rec ty) k)))
        (position (element_has x.name) (elements_of rec ty)) (element, place)
        (sym (ap (option_and_then (λ (x : Bel). place_in x.name (elements_of rec ty))) x_is)
        ∙ is.in_element) in
        let j = mapped (λ j. (k.0, j)) (option_and_then (place_in_element x.name)
        (slice_get (elements_of rec ty) k.0)) (element, place) k.2 in
        let e = chained (place_in_element x.name) (slice_get (elements_of rec ty) k.0) j.0 j.1 in
        let y = position-at (λ y. nat_eq y.name x.name) e.0.bels j.0 e.2 in
        let element_same : k.0 ≡ element = ap (λ p. p.0) j.2 in
        let place_same : j.0 ≡ place = ap (λ p. p.1) j.2 in
        let e_same : e.0 ≡ is.e = same_Some e.0 is.e
        (sym e.1 ∙ ap (slice_get (elements_of rec ty)) element_same ∙ is.e_is) in
        let y_same : y.0 ≡ lut_bel = same_Some y.0 lut_bel (sym y.1
        ∙ ap (λ (f : LutElement). slice_get f.bels j.0) e_same
        ∙ ap (slice_get is.e.bels) place_same ∙ is.lut_bel_is) in
        ap (λ (z : LutBel). z.name) (sym y_same) ∙ eqb-true y.0.name x.name y.2

    -- and its pins are on the BEL's wires
    pub wire_there : (t name : ℕ) → slice_get rec.site_type_list t ≡ Some ty
        → wire_of_input rec t b name ≡ wire_named ty lut_bel name
    wire_there t name ty_is =
        let x = chained (λ (x : Bel). place_in x.name (elements_of rec ty)) (slice_get ty.bels b)
        (element, place) is.in_element in
        ap (λ o. option_and_then (λ pin. option_and_then (wire_in pin) o)
        (option_and_then (bel_pin_in b name) o)) ty_is
        ∙ ap (λ o. option_and_then (λ pin. wire_in pin ty) (option_and_then (λ (x : Bel).
        pin_of_bel x.name name ty) o)) x.1
        ∙ ap (λ n. option_and_then (λ pin. wire_in pin ty) (pin_of_bel n name ty))
        (sym (name_is x.0 x.1))

-- Of a site.
module _ (rec : DeviceRec) (site t : ℕ) (ty : SiteType) (type_is : type_at rec site ≡ Some t)
    (ty_is : slice_get rec.site_type_list t ≡ Some ty) where
  told : {A : Type 0} (tell : SiteType → Option A) → in_site rec site tell ≡ tell ty
  told tell =
      ap (option_and_then (λ u. option_and_then tell (slice_get rec.site_type_list u))) type_is
      ∙ ap (option_and_then tell) ty_is

  told_of_bel : {A : Type 0} (bel b : ℕ) → bel_in bel ty ≡ Some b
      → (tell : ℕ → SiteType → Option A) → of_bel rec site bel tell ≡ tell b ty
  told_of_bel bel b bel_is tell = told (λ u. option_and_then (λ c. tell c u) (bel_in bel u))
      ∙ ap (option_and_then (λ c. tell c ty)) bel_is

  elements_are : elements_at rec site ≡ Some (elements_of rec ty)
  elements_are = ap (λ o. option_map (elements_of rec)
      (option_and_then (slice_get rec.site_type_list) o)) type_is
      ∙ ap (option_map (elements_of rec)) ty_is

  lut_bel_told : (bel b : ℕ) → bel_in bel ty ≡ Some b
      → lut_bel_at rec site bel ≡ lut_bel_in rec b ty
  lut_bel_told bel b bel_is =
      ap (λ o. option_and_then (λ (at : ℕ × ℕ). option_and_then (λ (elements : List LutElement).
      option_and_then (λ (e : LutElement). slice_get e.bels at.1) (slice_get elements at.0)) o)
      (element_at rec site bel)) elements_are
      ∙ ap (option_and_then (λ (at : ℕ × ℕ). option_and_then (λ (e : LutElement).
      slice_get e.bels at.1) (slice_get (elements_of rec ty) at.0)))
      (told_of_bel bel b bel_is (element_of_bel rec))

-- by names
pub in_site_is : (rec : DeviceRec) (site bel element place : ℕ) (lut_bel : LutBel)
    (shape : ShapeSeen) → element_at rec site bel ≡ Some (element, place)
    → lut_bel_at rec site bel ≡ Some lut_bel → shape_at rec site element ≡ Some shape
    → (t b : ℕ) × IsInSite rec site bel t b element place lut_bel shape
in_site_is rec site bel element place lut_bel shape at lut_bel_is shape_is =
    let t = chained (λ t. option_and_then (λ (u : SiteType). option_and_then (λ b.
    element_of_bel rec b u) (bel_in bel u)) (slice_get rec.site_type_list t)) (type_at rec site)
    (element, place) at in
    let ty = chained (λ (u : SiteType). option_and_then (λ b. element_of_bel rec b u)
    (bel_in bel u)) (slice_get rec.site_type_list t.0) (element, place) t.2 in
    let b = chained (λ b. element_of_bel rec b ty.0) (bel_in bel ty.0) (element, place) ty.2 in (
      t.0,
      b.0,
      record {
        type_is = t.1;
        ty = ty.0;
        ty_is = ty.1;
        bel_is = b.1;
        in_type_is = typed rec ty.0 b.0 element place lut_bel shape b.2
            (sym (lut_bel_told rec site t.0 ty.0 t.1 ty.1 bel b.0 b.1) ∙ lut_bel_is)
            (sym (told rec site t.0 ty.0 t.1 ty.1 (shape_in rec element)) ∙ shape_is);
      },
    )

-- and back
module _ (rec : DeviceRec) (site bel t b element place : ℕ) (lut_bel : LutBel)
    (shape : ShapeSeen) (is : IsInSite rec site bel t b element place lut_bel shape) where
  pub element_there : element_at rec site bel ≡ Some (element, place)
  element_there = told_of_bel rec site t is.ty is.type_is is.ty_is bel b is.bel_is
      (element_of_bel rec) ∙ is.in_type_is.in_element

  pub lut_bel_there : lut_bel_at rec site bel ≡ Some lut_bel
  lut_bel_there = lut_bel_told rec site t is.ty is.type_is is.ty_is bel b is.bel_is
      ∙ the_lut_bel rec is.ty b element place (element, place) is.in_type_is.in_element
      ∙ ap (option_and_then (λ (e : LutElement). slice_get e.bels place)) is.in_type_is.e_is
      ∙ is.in_type_is.lut_bel_is

  pub shape_there : shape_at rec site element ≡ Some shape
  shape_there = told rec site t is.ty is.type_is is.ty_is (shape_in rec element)
      ∙ ap (option_and_then (usable_shape is.ty)) is.in_type_is.e_is
      ∙ ap (λ u. if u then Some (shape_of is.ty is.in_type_is.e) else None) is.in_type_is.usable
      ∙ ap Some is.in_type_is.shape_is

  pub lines_there : lines_at rec site element ≡ Some (lines_of is.ty is.in_type_is.e)
  lines_there = told rec site t is.ty is.type_is is.ty_is (λ (u : SiteType).
      option_map (lines_of u) (slice_get (elements_of rec u) element))
      ∙ ap (option_map (lines_of is.ty)) is.in_type_is.e_is

-- the wire of a pin is there
place_below : {X : Type 0} (p : X → Bool) (xs : List X) (n : ℕ) → position p xs ≡ Some n
    → n < length xs
place_below p xs n h = let at = position-at p xs n h in slice_get_within xs n at.0 at.1

pub wire_in_site : (rec : DeviceRec) (site t : ℕ) → type_of_site rec site ≡ Some t
    → (pin wire : ℕ) → in_type (wire_in pin) rec t ≡ Some wire → IsThere rec (Wire site wire)
wire_in_site rec site t type_is pin wire is =
    let ty = chained (wire_in pin) (slice_get rec.site_type_list t) wire is in (
      length ty.0.site_wires,
      ap (λ o. option_map (λ (u : SiteType). length u.site_wires)
          (option_and_then (slice_get rec.site_type_list) o)) type_is
          ∙ ap (option_map (λ (u : SiteType). length u.site_wires)) ty.1,
      place_below (λ w. list_any (nat_eq pin) w.pins) ty.0.site_wires wire ty.2,
    )
