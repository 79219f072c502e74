-- The tables of a site type, from those of all places and sources by name.
use Rattle.std.proofs.Common.{◌≡◌, ◌<◌, refl, ap, sym, subst, ◌∙◌, ℕ, zero, suc, ◌&&◌, Bool, true, false, true≢false, cond, nat_eq, nat_lt, if◌then◌else◌, ◌⊎◌, inl, inr, List, [], ◌∷◌, ◌++◌, length, slice_get, Option, Some, None, option_map, option_and_then, unwrap_or, arith}
use Rattle.std.specs.List.{position, position_or_len, find}
use Rattle.std.proofs.Math.Bool.{and-false, and-true}
use Rattle.std.proofs.lemmas.Bool.{eqb-true}
use Rattle.std.proofs.lemmas.Option.{none-some, same_Some, slice_get_within}
use Rattle.std.proofs.lemmas.List.Folds.{find_at}
use Rattle.ix_num.specs.declared.resource.Constant.{Constant}
use Rattle.ix_rec.specs.declared.device.DeviceRec.{DeviceRec}
use Rattle.ix_rec.specs.declared.device.Constants.{Constants}
use Rattle.ix_rec.specs.declared.device.SiteType.{SiteType}
use Rattle.ix_rec.specs.declared.device.Bel.{Bel}
use Rattle.ix_rec.specs.declared.device.BelPin.{BelPin}
use Rattle.ix_rec.specs.declared.device.LutBel.{LutBel}
use Rattle.ix_rec.specs.declared.device.LutElement.{LutElement}
use Rattle.ix_rec.specs.declared.device.SiteTypeLutElements.{SiteTypeLutElements}
use Rattle.ix_rec.specs.declared.device.SiteConstantSource.{SiteConstantSource}
use Rattle.ix_keys.specs.declared.key.Key.{Key}
use Rattle.ix_keys.specs.Keys.{key}
use Rattle.ix_first.specs.First.{value_at}
use Rattle.ix_first.specs.declared.by_key.FirstByKey.{FirstByKey}
use Rattle.ix_device_rules.specs.Rules.{element_has, elements_for, is_pin_of}
use Rattle.ix_device.specs.declared.element_places.ElementPlace.{ElementPlace}
use Rattle.ix_device.specs.Lookups.{pin_of_bel}
use Rattle.ix_device.specs.Elements.{place_in, place_in_element, elements_of, element_of_bel, is_usable}
use Rattle.ix_device.specs.Admission.{inputs_of_bel}
use Rattle.ix_device.specs.Sources.{constant_of, if_named, names_pin, first_constant, site_source_in}
use Rattle.ix_device.specs.NamedSources.{is_under, is_number, first_that, named_source, source_of_pin}
use Rattle.ix_device.specs.Places.{place_told, element_at, ArePlaces, place_of_bel, usable_inputs}
use Rattle.ix_device.proofs.OptionLemmas.{position-at}
use Rattle.ix_device.proofs.WireLemmas.{nat_eq-swap}

-- what stands at a place of a list with one item more
pub slice_get-push : {A : Type 0} (xs : List A) (y : A) (i : ℕ) (t : A) → slice_get (xs ++ y ∷ []) i ≡ Some t → (slice_get xs i ≡ Some t) ⊎ ((i ≡ length xs) × (y ≡ t))
slice_get-push [] y zero t h = inr (refl, same_Some y t h)
slice_get-push [] y (suc i) t h = absurd (none-some t h)
slice_get-push (x ∷ xs) y zero t h = inl h
slice_get-push (x ∷ xs) y (suc i) t h = elim (slice_get-push xs y i t h) [ inl there ↦ inl there | inr last ↦ inr (ap suc last.0, last.1) ]

-- Elements.

pub element_same : (rec : DeviceRec) (t : SiteType) (places : FirstByKey ElementPlace) (bel : ℕ) → ArePlaces rec.lut_definitions.lut_elements (λ ty. elements_for ty rec.lut_definitions.lut_elements) places
    → option_map place_told (place_of_bel places t bel) ≡ element_of_bel rec bel t
element_same rec t places bel are = by (slice_get t.bels bel)
  where
    by : (o : Option Bel) → option_map place_told (option_and_then (λ b. value_at places (key t.name 0 b.name)) o) ≡ option_and_then (λ b. place_in b.name (elements_of rec t)) o
    by None = refl
    by (Some b) = are.places t.name b.name

find-position : {X : Type 0} (p : X → Bool) (xs : List X) (k : ℕ) → position p xs ≡ Some k → find p xs ≡ slice_get xs k
find-position p xs k h = find_at p xs ∙ ap (slice_get xs) (by (nat_lt (position_or_len p xs) (length xs)) h)
  where
    by : (b : Bool) → cond b (Some (position_or_len p xs)) None ≡ Some k → position_or_len p xs ≡ k
    by true e = same_Some (position_or_len p xs) k e
    by false e = absurd (none-some k e)

-- a place leads to the first element with the BEL, and into its list of BELs
place_found : (bel : ℕ) (es : List LutElement) (k j : ℕ) (l : LutElement) → place_in bel es ≡ Some (k, j) → find (element_has bel) es ≡ Some l → (slice_get es k ≡ Some l) × (j < length l.bels)
place_found bel es k j l placed found = by (position (element_has bel) es) refl placed
  where
    into : (m : ℕ) (x : LutElement) (o : Option ℕ) → place_in_element bel x ≡ o → option_map {U = ℕ × ℕ} (λ n. (m, n)) o ≡ Some (k, j) → (m ≡ k) × (j < length x.bels)
    into m x None e h = absurd (none-some (k, j) h)
    into m x (Some n) e h =
        let same : (m, n) ≡ (k, j) = same_Some (m, n) (k, j) h in
        let at = position-at (λ b. nat_eq b.name bel) x.bels n e in
        (ap (λ p. p.0) same, subst (λ i. i < length x.bels) (ap (λ p. p.1) same) (slice_get_within x.bels n at.0 at.1))

    by : (o : Option ℕ) → position (element_has bel) es ≡ o → option_and_then (λ m. option_map {U = ℕ × ℕ} (λ n. (m, n)) (option_and_then (place_in_element bel) (slice_get es m))) o ≡ Some (k, j) → (slice_get es k ≡ Some l) × (j < length l.bels)
    by None e h = absurd (none-some (k, j) h)
    by (Some m) e h =
        let at : slice_get es m ≡ Some l = sym (find-position (element_has bel) es m e) ∙ found in
        let leads = into m l (place_in_element bel l) refl (sym (ap (λ s. option_map {U = ℕ × ℕ} (λ n. (m, n)) (option_and_then (place_in_element bel) s)) at) ∙ h) in
        (subst (λ i. slice_get es i ≡ Some l) leads.0 at, leads.1)

module _ (rec : DeviceRec) (t : SiteType) (places : FirstByKey ElementPlace) (bel : ℕ) (are : ArePlaces rec.lut_definitions.lut_elements (λ ty. elements_for ty rec.lut_definitions.lut_elements) places) (p : ElementPlace) (entry : SiteTypeLutElements) (l : LutElement) (found : Some p ≡ place_of_bel places t bel) (at_entry : slice_get rec.lut_definitions.lut_elements p.entry ≡ Some entry) (at_lut : slice_get entry.luts p.lut ≡ Some l) where
  told : Some (p.element, p.place) ≡ element_of_bel rec bel t
  told = ap (option_map place_told) found ∙ element_same rec t places bel are

  leads : (slice_get (elements_of rec t) p.element ≡ Some l) × (p.place < length l.bels)
  leads = by (slice_get t.bels bel) found told
    where
      here : element_at rec.lut_definitions.lut_elements p ≡ Some l
      here = ap (option_and_then (λ e. slice_get e.luts p.lut)) at_entry ∙ at_lut

      first : (o : Option LutElement) → Some (element_at rec.lut_definitions.lut_elements p) ≡ option_map Some o → o ≡ Some l
      first None h = absurd (none-some (element_at rec.lut_definitions.lut_elements p) (sym h))
      first (Some x) h = sym (same_Some (element_at rec.lut_definitions.lut_elements p) (Some x) h) ∙ here

      by : (o : Option Bel) → Some p ≡ option_and_then (λ b. value_at places (key t.name 0 b.name)) o → Some (p.element, p.place) ≡ option_and_then (λ b. place_in b.name (elements_of rec t)) o
          → (slice_get (elements_of rec t) p.element ≡ Some l) × (p.place < length l.bels)
      by None h placed = absurd (none-some p (sym h))
      by (Some b) h placed =
          place_found b.name (elements_of rec t) p.element p.place l (sym placed) (first (find (element_has b.name) (elements_of rec t)) (ap (option_map (element_at rec.lut_definitions.lut_elements)) h ∙ are.luts t.name b.name))

  pub bel_within : p.place < length l.bels
  bel_within = leads.1

  told_inputs : usable_inputs rec t bel ≡ (if is_usable t l then option_map (λ b. length b.input_pins) (slice_get l.bels p.place) else None)
  told_inputs =
      ap (option_and_then (inputs_of_bel rec t)) (sym told)
      ∙ ap (option_and_then (λ e. if is_usable t e then option_map (λ b. length b.input_pins) (slice_get e.bels p.place) else None)) leads.0

  pub no_inputs : is_usable t l ≡ false → None ≡ usable_inputs rec t bel
  no_inputs h = sym (told_inputs ∙ ap (λ u. if u then option_map (λ b. length b.input_pins) (slice_get l.bels p.place) else None) h)

  pub some_inputs : (b : LutBel) → is_usable t l ≡ true → slice_get l.bels p.place ≡ Some b → Some (length b.input_pins) ≡ usable_inputs rec t bel
  some_inputs b h at = sym (told_inputs ∙ ap (λ u. if u then option_map (λ c. length c.input_pins) (slice_get l.bels p.place) else None) h ∙ ap (option_map (λ c. length c.input_pins)) at)

-- Sources.

module _ (t : SiteType) (pin : ℕ) where
  as_first_that : (test : SiteConstantSource → Bool) → ((e : SiteConstantSource) → names_pin t pin e ≡ test e) → (es : List SiteConstantSource) → first_constant t pin es ≡ first_that test es
  as_first_that test same [] = refl
  as_first_that test same (e ∷ es) = ap (λ b. if_named b (constant_of e.constant) (first_constant t pin es)) (same e) ∙ ap (if_named (test e) (constant_of e.constant)) (as_first_that test same es)

  nothing_passes : (es : List SiteConstantSource) → first_that (λ e. false) es ≡ None
  nothing_passes [] = refl
  nothing_passes (e ∷ es) = nothing_passes es

  module _ (p : BelPin) (at : slice_get t.bel_pins pin ≡ Some p) where
    both : (a b c d : ℕ) (x y : Bool) → nat_eq a b ≡ x → nat_eq c d ≡ y → (x && y) ≡ true → (a ≡ b) × (c ≡ d)
    both a b c d true true e f h = (eqb-true a b e, eqb-true c d f)
    both a b c d true false e f h = absurd (true≢false (sym h))
    both a b c d false y e f h = absurd (true≢false (sym h))

    -- an entry of these names is the pin's own where it has the pin's names, which no earlier pin has
    own : (bel name : ℕ) → unwrap_or (option_map (nat_eq pin) (pin_of_bel bel name t)) false ≡ (is_number pin (pin_of_bel p.bel p.name t) && (nat_eq bel p.bel && nat_eq name p.name))
    own bel name = by (nat_eq bel p.bel && nat_eq name p.name) refl
      where
        as_number : (o : Option ℕ) → unwrap_or (option_map (nat_eq pin) o) false ≡ is_number pin o
        as_number None = refl
        as_number (Some m) = refl

        other : (nat_eq bel p.bel && nat_eq name p.name) ≡ false → (o : Option ℕ) → pin_of_bel bel name t ≡ o → unwrap_or (option_map (nat_eq pin) o) false ≡ false
        other unlike None e = refl
        other unlike (Some m) e = number (nat_eq pin m) refl
          where
            number : (b : Bool) → nat_eq pin m ≡ b → b ≡ false
            number false same = refl
            number true same =
                let found = position-at (is_pin_of bel name) t.bel_pins m e in
                let here : found.0 ≡ p = same_Some found.0 p (sym found.1 ∙ ap (slice_get t.bel_pins) (sym (eqb-true pin m same)) ∙ at) in
                let passes : (nat_eq p.bel bel && nat_eq p.name name) ≡ true = ap (is_pin_of bel name) (sym here) ∙ found.2 in
                let swapped : (nat_eq bel p.bel && nat_eq name p.name) ≡ true = ap (λ b. b && nat_eq name p.name) (nat_eq-swap bel p.bel) ∙ ap (λ b. nat_eq p.bel bel && b) (nat_eq-swap name p.name) ∙ passes in
                absurd (true≢false (sym swapped ∙ unlike))

        by : (b : Bool) → (nat_eq bel p.bel && nat_eq name p.name) ≡ b → unwrap_or (option_map (nat_eq pin) (pin_of_bel bel name t)) false ≡ (is_number pin (pin_of_bel p.bel p.name t) && b)
        by true h =
            let same = both bel p.bel name p.name (nat_eq bel p.bel) (nat_eq name p.name) refl refl h in
            as_number (pin_of_bel bel name t) ∙ ap (λ b. is_number pin (pin_of_bel b name t)) same.0 ∙ ap (λ n. is_number pin (pin_of_bel p.bel n t)) same.1 ∙ sym (and-true (is_number pin (pin_of_bel p.bel p.name t)))
        by false h = other h (pin_of_bel bel name t) refl ∙ sym (and-false (is_number pin (pin_of_bel p.bel p.name t)))

    constant_told : (b : Bool) → is_number pin (pin_of_bel p.bel p.name t) ≡ b → (o : Option Constants)
        → (if b then option_and_then (λ c. first_that (is_under (key t.name p.bel p.name)) c.site_sources) o else None) ≡ option_and_then (λ c. first_constant t pin c.site_sources) o
    constant_told true h None = refl
    constant_told false h None = refl
    constant_told true h (Some c) = sym (as_first_that (is_under (key t.name p.bel p.name)) (λ e. ap (λ b. nat_eq e.site_type t.name && b) (own e.bel e.bel_pin ∙ ap (λ b. b && (nat_eq e.bel p.bel && nat_eq e.bel_pin p.name)) h)) c.site_sources)
    constant_told false h (Some c) =
        sym (as_first_that (λ e. false) (λ e. ap (λ b. nat_eq e.site_type t.name && b) (own e.bel e.bel_pin ∙ ap (λ b. b && (nat_eq e.bel p.bel && nat_eq e.bel_pin p.name)) h) ∙ and-false (nat_eq e.site_type t.name)) c.site_sources ∙ nothing_passes c.site_sources)

past : {X : Type 0} (i : ℕ) (xs : List X) → i < length xs → slice_get xs i ≡ None → ⊥
past i [] within h = omega (arith, within)
past zero (x ∷ xs) within h = none-some x (sym h)
past (suc i) (x ∷ xs) within h = past i xs (omega (arith, within)) h

pub source_same : (rec : DeviceRec) (t : SiteType) (table : FirstByKey Constant) (pin : ℕ) → pin < length t.bel_pins → ((q : Key) → value_at table q ≡ named_source rec q) → source_of_pin table t pin ≡ site_source_in rec pin t
source_same rec t table pin within are = by (slice_get t.bel_pins pin) refl
  where
    by : (o : Option BelPin) → slice_get t.bel_pins pin ≡ o → option_and_then (λ p. if is_number pin (pin_of_bel p.bel p.name t) then value_at table (key t.name p.bel p.name) else None) o ≡ site_source_in rec pin t
    by None e = absurd (past pin t.bel_pins within e)
    by (Some p) e = ap (λ v. if is_number pin (pin_of_bel p.bel p.name t) then v else None) (are (key t.name p.bel p.name)) ∙ constant_told t pin p e (is_number pin (pin_of_bel p.bel p.name t)) refl rec.constants
