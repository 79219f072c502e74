-- What a device that breaks no rule has: LUT elements whose BELs read bits of their tables.
use Rattle.std.proofs.Common.{◌≡◌, ◌≤◌, ◌<◌, refl, ap, sym, subst, ◌∙◌, ℕ, zero, suc, ◌+◌, ◌-◌, ◌^◌, ◌&&◌, Bool, true, false, true≢false, nat_eq, nat_le, nat_lt, if◌then◌else◌, List, [], ◌∷◌, ◌++◌, length, map, take, slice_get, Option, Some, None, option_and_then, ◌⊎◌, inl, inr, arith}
use Rattle.std.specs.List.{AllByRecursion, flat_map, find, position}
use Rattle.std.proofs.Math.Pow.{pow_mono}
use Rattle.std.proofs.lemmas.Bool.{eqb-true, leb-true, leb-false, ltb-true}
use Rattle.std.proofs.lemmas.Option.{none-some}
use Rattle.ix_message.specs.Indexes.{Step, begun, asked, Item, first_unfit}
use Rattle.ix_rec.specs.declared.device.DeviceRec.{DeviceRec}
use Rattle.ix_rec.specs.declared.device.SiteType.{SiteType}
use Rattle.ix_rec.specs.declared.device.LutBel.{LutBel}
use Rattle.ix_rec.specs.declared.device.LutElement.{LutElement}
use Rattle.ix_rec.specs.declared.device.SiteTypeLutElements.{SiteTypeLutElements}
use Rattle.ix_rec.specs.declared.place.Rule.{Rule}
use Rattle.ix_rec.specs.declared.place.Rule.TheVariants.{M1, M2, M3, M4, M5}
use Rattle.ix_device_rules.specs.Rules.{each_by_earlier, names_differ, wires_stand, pins_are_on_one_wire, pins_have_bels, lut_elements_stand, elements_stand, elements_of_type, elements_for, element_stands, lut_bel_stands, bits_fit, site_type_named, or_later as later_rule, first_broken}
use Rattle.ix_device.specs.Elements.{elements_of}
use Rattle.ix_device.specs.Premises.{BelFits, BelsFit}
use Rattle.ix_device.proofs.OptionLemmas.{find-place}
use Rattle.ix_device.proofs.Valid.{all_fit, fits_none, all_fit_append, and_left, and_right, by_earlier_fits, no_rule, types_differ}
use Rattle.ix_device.proofs.Walks.{at_place}

later_rules : (rule : Rule) (o : Option Item) (rest : Option (Rule × Item)) → later_rule rule o rest ≡ None → rest ≡ None
later_rules rule None rest h = h
later_rules rule (Some item) rest h = absurd (none-some _ (sym h))

luts_fit : (rec : DeviceRec) → first_broken rec ≡ None → all_fit (lut_elements_stand rec) ≡ true
unfolding first_broken
luts_fit rec h =
    fits_none [] (lut_elements_stand rec)
    (no_rule M5 (first_unfit [] (lut_elements_stand rec)) _
    (later_rules M4 (first_unfit [] (pins_have_bels rec)) _ (later_rules M3 (first_unfit [] (pins_are_on_one_wire rec)) _ (later_rules M2 (first_unfit [] (wires_stand rec)) _ (later_rules M1 (first_unfit [] (names_differ rec)) _ h)))))

entries_fit : (rec : DeviceRec) → all_fit (lut_elements_stand rec) ≡ true → (i : ℕ) (e : SiteTypeLutElements) → slice_get rec.lut_definitions.lut_elements i ≡ Some e
    → all_fit (elements_stand rec (take i rec.lut_definitions.lut_elements) e) ≡ true
unfolding lut_elements_stand
entries_fit rec h i e at = by_earlier_fits (elements_stand rec) [] rec.lut_definitions.lut_elements i e at h

-- The bits of one BEL.

few_inputs : (n : ℕ) → 2 ^ n ≤ 64 → n ≤ 6
few_inputs n h = by (nat_le n 6) refl
  where
    by : (b : Bool) → nat_le n 6 ≡ b → n ≤ 6
    by true e = leb-true n 6 e
    by false e = absurd (let far : 7 ≤ n = leb-false n 6 e in let most : 2 ^ 7 ≤ 2 ^ n = pow_mono {i = 7} {j = n} far in omega (arith, h, most))

three : (a b c : Bool) → (a && b && c) ≡ true → (a ≡ true) × ((b ≡ true) × (c ≡ true))
three true true true h = (refl, (refl, refl))
three true true false h = absurd (true≢false (sym h))
three true false c h = absurd (true≢false (sym h))
three false b c h = absurd (true≢false (sym h))

bel_fits : (width : ℕ) (b : LutBel) → width ≤ 64 → bits_fit width b ≡ true → BelFits b
bel_fits width b most h =
    let facts = three (nat_le b.low_bit b.high_bit) (nat_lt b.high_bit width) (nat_eq (b.high_bit - b.low_bit + 1) (2 ^ length b.input_pins)) h in
    let ordered : b.low_bit ≤ b.high_bit = leb-true b.low_bit b.high_bit facts.0 in
    let below : b.high_bit < width = ltb-true b.high_bit width facts.1.0 in
    let all : b.high_bit - b.low_bit + 1 ≡ 2 ^ length b.input_pins = eqb-true (b.high_bit - b.low_bit + 1) (2 ^ length b.input_pins) facts.1.1 in
    let few : 2 ^ length b.input_pins ≤ 64 = omega (arith, ordered, below, all, most) in
    record {
      few = few_inputs (length b.input_pins) few;
      within = omega (arith, ordered, below, all, most);
    }

bels_fit : (t : SiteType) (before : List LutElement) (width : ℕ) → width ≤ 64 → (bels : List LutBel) → all_fit (flat_map (lut_bel_stands t before width) bels) ≡ true → AllByRecursion BelFits bels
bels_fit t before width most [] h = tt
bels_fit t before width most (b ∷ bels) h =
    let both = sym (all_fit_append (lut_bel_stands t before width b) (flat_map (lut_bel_stands t before width) bels)) ∙ h in (
      bel_fits width b most (and_left (bits_fit width b) _ (and_left (all_fit (lut_bel_stands t before width b)) (all_fit (flat_map (lut_bel_stands t before width) bels)) both)),
      bels_fit t before width most bels (and_right (all_fit (lut_bel_stands t before width b)) (all_fit (flat_map (lut_bel_stands t before width) bels)) both),
    )

element_fits : (t : SiteType) (before : List LutElement) (e : LutElement) → all_fit (element_stands t before e) ≡ true → BelsFit e
element_fits t before e h =
    let width = and_left (nat_lt 0 e.width && nat_le e.width 64) (all_fit (flat_map (lut_bel_stands t before e.width) e.bels)) h in
    bels_fit t before e.width (leb-true e.width 64 (and_right (nat_lt 0 e.width) (nat_le e.width 64) width)) e.bels
    (and_right (nat_lt 0 e.width && nat_le e.width 64) (all_fit (flat_map (lut_bel_stands t before e.width) e.bels)) h)

-- All elements of a site type.

all_places : {A : Type 0} (P : A → Type 0) (xs : List A) → ((i : ℕ) (x : A) → slice_get xs i ≡ Some x → P x) → AllByRecursion P xs
all_places P [] h = tt
all_places P (x ∷ xs) h = (h 0 x refl, all_places P xs (λ i y at. h (suc i) y at))

all_append : {A : Type 0} (P : A → Type 0) (xs ys : List A) → AllByRecursion P xs → AllByRecursion P ys → AllByRecursion P (xs ++ ys)
all_append P [] ys h g = g
all_append P (x ∷ xs) ys h g = (h.0, all_append P xs ys h.1 g)

all_of : (name : ℕ) (entries : List SiteTypeLutElements) → ((i : ℕ) (e : SiteTypeLutElements) → slice_get entries i ≡ Some e → nat_eq e.site name ≡ true → AllByRecursion BelsFit e.luts) → AllByRecursion BelsFit (elements_for name entries)
all_of name [] h = tt
all_of name (e ∷ es) h = all_append BelsFit (if nat_eq e.site name then e.luts else []) (elements_for name es) (first (nat_eq e.site name) refl) (all_of name es (λ i x at same. h (suc i) x at same))
  where
    first : (b : Bool) → nat_eq e.site name ≡ b → AllByRecursion BelsFit (if b then e.luts else [])
    first true same = h 0 e refl same
    first false same = tt

-- the BELs of each element of a site type
pub element_bels_fit : (rec : DeviceRec) → first_broken rec ≡ None → (k : ℕ) (t : SiteType) → slice_get rec.site_type_list k ≡ Some t
    → (n : ℕ) (e : LutElement) → slice_get (elements_of rec t) n ≡ Some e → BelsFit e
element_bels_fit rec valid k t at_type n e at = at_place BelsFit (elements_of rec t) n e (all_of t.name rec.lut_definitions.lut_elements entry) at
  where
    named : (name : ℕ) → name ≡ t.name → site_type_named rec name ≡ Some t
    named name same =
        ap (site_type_named rec) same ∙ find-place (λ u. nat_eq u.name t.name) rec.site_type_list
        ∙ ap (option_and_then (slice_get rec.site_type_list)) (types_differ rec valid k t at_type) ∙ at_type

    entry : (i : ℕ) (x : SiteTypeLutElements) → slice_get rec.lut_definitions.lut_elements i ≡ Some x → nat_eq x.site t.name ≡ true → AllByRecursion BelsFit x.luts
    entry i x at_i same =
        let earlier = elements_for x.site (take i rec.lut_definitions.lut_elements) in
        let fits : all_fit (elements_of_type (Some t) earlier x.luts) ≡ true =
        ap (λ o. all_fit (elements_of_type o earlier x.luts)) (sym (named x.site (eqb-true x.site t.name same))) ∙ entries_fit rec (luts_fit rec valid) i x at_i in
        all_places BelsFit x.luts (λ j l at_j. element_fits t (earlier ++ take j x.luts) l (by_earlier_fits (λ before y. element_stands t (earlier ++ before) y) [] x.luts j l at_j fits))
