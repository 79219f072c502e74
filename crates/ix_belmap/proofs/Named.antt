-- Site types and BELs are found by their names, since a valid device has none twice.
use Rattle.std.proofs.Common.{◌≡◌, refl, ap, sym, ◌∙◌, ℕ, ◌+◌, Bool, true, false, not, nat_eq, List}
use Rattle.std.proofs.Common.{[], ◌∷◌, ◌++◌, map, take, drop, slice_get, position, Option, Some}
use Rattle.std.proofs.Common.{None, is_some, option_and_then, ◌||◌, take-append-drop}
use Rattle.std.specs.List.{list_any, flat_map}
use Rattle.std.proofs.lemmas.Bool.{eq-eqb, true≢false}
use Rattle.ix_message.specs.Indexes.{Step, begun, asked, first_unfit}
use Rattle.ix_rec.specs.declared.device.DeviceRec.{DeviceRec}
use Rattle.ix_rec.specs.declared.device.SiteType.{SiteType}
use Rattle.ix_rec.specs.declared.device.Bel.{Bel}
use Rattle.ix_rec.specs.declared.place.Rule.TheVariants.{M1}
use Rattle.ix_device_rules.specs.Rules.{is_new, each_by_earlier, site_type_names, tile_type_names}
use Rattle.ix_device_rules.specs.Rules.{tile_names, cell_names, bel_names, site_pin_names}
use Rattle.ix_device_rules.specs.Rules.{bel_pin_names, names_differ, first_broken}
use Rattle.ix_first.specs.First.{or_later}
use Rattle.ix_device.specs.Lookups.{bel_in, in_type, site_type_number}
use Rattle.ix_device.proofs.Differing.{nat_eq_sym}
use Rattle.ix_device.proofs.FirstPlaces.{one_more_place, is_some_position}
use Rattle.ix_device.proofs.Valid.{all_fit, fits_none, all_fit_append, and_left, and_right}
use Rattle.ix_device.proofs.Valid.{by_earlier_fits, no_rule, place_stays, types_differ}

names_fit : (rec : DeviceRec) → first_broken rec ≡ None → all_fit (names_differ rec) ≡ true
unfolding first_broken
names_fit rec h = fits_none [] (names_differ rec)
    (no_rule M1 (first_unfit [] (names_differ rec)) _ h)

types_fit : (rec : DeviceRec) → all_fit (names_differ rec) ≡ true
    → all_fit (each_by_earlier site_type_names rec.site_type_list) ≡ true
unfolding names_differ
types_fit rec h =
    let a = each_by_earlier site_type_names rec.site_type_list in
    let b = flat_map tile_type_names rec.tile_type_list in
    let c = each_by_earlier tile_names rec.tile_list in
    let d = each_by_earlier cell_names rec.cell_bel_map in
    let abc = and_left (all_fit ((a ++ b) ++ c)) (all_fit d)
    (sym (all_fit_append ((a ++ b) ++ c) d) ∙ h) in
    let ab = and_left (all_fit (a ++ b)) (all_fit c) (sym (all_fit_append (a ++ b) c) ∙ abc) in
    and_left (all_fit a) (all_fit b) (sym (all_fit_append a b) ∙ ab)

-- the BEL names of a site type differ
bels_fit : (before : List SiteType) (t : SiteType) → all_fit (site_type_names before t) ≡ true
    → all_fit (each_by_earlier bel_names t.bels) ≡ true
bels_fit before t h =
    let a : List Step = begun "SiteType" ∷ asked "SiteType" "name"
    (is_new (map (λ u. u.name) before) t.name) ∷ [] in
    let b = each_by_earlier (bel_pin_names t) t.bel_pins in
    let c = each_by_earlier site_pin_names t.pins in
    let d = each_by_earlier bel_names t.bels in
    and_right (all_fit ((a ++ b) ++ c)) (all_fit d) (sym (all_fit_append ((a ++ b) ++ c) d) ∙ h)

no_place : {A : Type 0} (p : A → Bool) (xs : List A) → list_any p xs ≡ false → position p xs ≡ None
no_place p xs h = by (position p xs) (is_some_position p xs ∙ h)
  where
    by : (o : Option ℕ) → is_some o ≡ false → o ≡ None
    by None e = refl
    by (Some k) e = absurd (true≢false e)

any_named : (name : ℕ) (xs : List Bel) → list_any (λ u. nat_eq u.name name) xs ≡ list_any
    (nat_eq name) (map (λ u. u.name) xs)
any_named name [] = refl
any_named name (x ∷ xs) = ap (λ b. b || list_any (λ u. nat_eq u.name name) xs)
    (nat_eq_sym x.name name) ∙ ap (λ b. nat_eq name x.name || b) (any_named name xs)

not_true : (b : Bool) → not b ≡ true → b ≡ false
not_true true h = sym h
not_true false h = refl

pub bel_found : (rec : DeviceRec) (k : ℕ) (t : SiteType) (i : ℕ) (b : Bel) → first_broken rec ≡ None
    → slice_get rec.site_type_list k ≡ Some t → slice_get t.bels i ≡ Some b
    → in_type (bel_in b.name) rec k ≡ Some i
bel_found rec k t i b valid at here =
    let fits = bels_fit (take k rec.site_type_list) t
    (by_earlier_fits site_type_names [] rec.site_type_list k t at
    (types_fit rec (names_fit rec valid))) in
    let one = by_earlier_fits bel_names [] t.bels i b here fits in
    let fresh = and_left (is_new (map (λ u. u.name) (take i t.bels)) b.name) _ one in
    let none = no_place (λ u. nat_eq u.name b.name) (take i t.bels)
    (any_named b.name (take i t.bels)
    ∙ not_true (list_any (nat_eq b.name) (map (λ u. u.name) (take i t.bels))) fresh) in
    let found : position (λ u. nat_eq u.name b.name) (take (i + 1) t.bels) ≡ Some i =
    sym (one_more_place (λ u. nat_eq u.name b.name) t.bels i b None here (sym none))
    ∙ ap (λ b. or_later None b i) (eq-eqb b.name b.name refl) in
    ap (λ o. option_and_then (bel_in b.name) o) at
    ∙ ap (position (λ u. nat_eq u.name b.name)) (sym (take-append-drop (i + 1) t.bels))
    ∙ place_stays (λ u. nat_eq u.name b.name) (take (i + 1) t.bels)
    (drop (i + 1) t.bels) i found

pub type_found : (rec : DeviceRec) (k : ℕ) (t : SiteType) → first_broken rec ≡ None
    → slice_get rec.site_type_list k ≡ Some t → site_type_number rec t.name ≡ Some k
type_found rec k t valid at = types_differ rec valid k t at
