-- Names in a device that breaks no rule: each is found at its own place.
use Rattle.std.proofs.Common.{◌≡◌, ◌∙◌, refl, ap, sym, ℕ, zero, suc, ◌+◌, Bool, true, false}
use Rattle.std.proofs.Common.{◌&&◌, List, [], ◌∷◌, ◌++◌, map, take}
use Rattle.std.proofs.Common.{slice_get, Option, Some, None, option_map}
use Rattle.std.specs.List.{flat_map}
use Rattle.std.proofs.lemmas.Option.{none-some, same_Some, slice_get-map}
use Rattle.std.proofs.lemmas.List.{append-nil, append_assoc, map-append}
use Rattle.std.proofs.lemmas.Grind.{flat_map-append}
use Rattle.ix_message.specs.Indexes.{Step, begun, asked, Item, first_unfit}
use Rattle.ix_rec.specs.declared.device.DeviceRec.{DeviceRec}
use Rattle.ix_rec.specs.declared.device.SiteType.{SiteType}
use Rattle.ix_rec.specs.declared.device.Bel.{Bel}
use Rattle.ix_rec.specs.declared.device.Tile.{Tile}
use Rattle.ix_rec.specs.declared.device.Site.{Site}
use Rattle.ix_rec.specs.declared.place.Rule.{Rule}
use Rattle.ix_rec.specs.declared.place.Rule.TheVariants.{M1}
use Rattle.ix_device_rules.specs.Rules.{is_new, by_earlier, each_by_earlier, site_type_names}
use Rattle.ix_device_rules.specs.Rules.{bel_pin_names, site_pin_names, bel_names, site_names}
use Rattle.ix_device_rules.specs.Rules.{tile_type_names, tile_names, cell_names, names_differ}
use Rattle.ix_device_rules.specs.Rules.{or_later, first_broken}
use Rattle.ix_device.specs.Lookups.{sites_from, sites_of, site_named, name_of_site}
use Rattle.ix_device.specs.Lookups.{site_type_number, bel_in}
use Rattle.ix_fit_legal.proofs.Fresh.{fresh, fresh_append, first_place, position_map, and_left}
use Rattle.ix_fit_legal.proofs.Fresh.{and_right, and_both}

-- What is asked by rule M1 fits (as in ix_device).

abbrev pub all_fit : List Step → Bool
all_fit [] = true
all_fit (begun kind ∷ rest) = all_fit rest
all_fit (asked kind field fit ∷ rest) = fit && all_fit rest

fits_none : (before steps : List Step) → first_unfit before steps ≡ None → all_fit steps ≡ true
unfolding first_unfit
fits_none before [] h = refl
fits_none before (begun kind ∷ rest) h = fits_none (before ++ begun kind ∷ []) rest h
fits_none before (asked kind field true ∷ rest) h = fits_none before rest h
fits_none before (asked kind field false ∷ rest) h = absurd (none-some _ (sym h))

all_fit_append : (xs ys : List Step) → all_fit (xs ++ ys) ≡ (all_fit xs && all_fit ys)
all_fit_append [] ys = refl
all_fit_append (begun kind ∷ xs) ys = all_fit_append xs ys
all_fit_append (asked kind field true ∷ xs) ys = all_fit_append xs ys
all_fit_append (asked kind field false ∷ xs) ys = refl

fits_left : (xs ys : List Step) → all_fit (xs ++ ys) ≡ true → all_fit xs ≡ true
fits_left xs ys h = and_left (all_fit xs) (all_fit ys) (sym (all_fit_append xs ys) ∙ h)

fits_right : (xs ys : List Step) → all_fit (xs ++ ys) ≡ true → all_fit ys ≡ true
fits_right xs ys h = and_right (all_fit xs) (all_fit ys) (sym (all_fit_append xs ys) ∙ h)

-- what was asked of an item, by those before it, fits
by_earlier_fits : {A : Type 0} (ask : List A → A → List Step) (before xs : List A) (k : ℕ) (x : A)
    → slice_get xs k ≡ Some x → all_fit (by_earlier ask before xs) ≡ true
    → all_fit (ask (before ++ take k xs) x) ≡ true
unfolding by_earlier
by_earlier_fits ask before [] k x at h = absurd (none-some x at)
by_earlier_fits ask before (y ∷ ys) zero x at h =
    ap (λ l. all_fit (ask l x)) (append-nil before) ∙ (ap (λ z. all_fit (ask before z))
    (sym (same_Some y x at)) ∙ fits_left (ask before y) (by_earlier ask (before ++ y ∷ []) ys) h)
by_earlier_fits ask before (y ∷ ys) (suc k) x at h =
    ap (λ l. all_fit (ask l x)) (sym (append_assoc before (y ∷ []) (take k ys)))
    ∙ by_earlier_fits ask (before ++ y ∷ []) ys k x at
    (fits_right (ask before y) (by_earlier ask (before ++ y ∷ []) ys) h)

-- numbers of which each is asked to be new, among some others too, are so
fresh_of : {A : Type 0} (f : A → ℕ) (ask : List A → A → List Step) (others : List A)
    → ((before : List A) (x : A) → all_fit (ask before x) ≡ true
    → is_new (map f (others ++ before)) (f x) ≡ true)
    → (before xs : List A) → all_fit (by_earlier ask before xs) ≡ true
    → fresh (map f (others ++ before)) (map f xs) ≡ true
unfolding by_earlier
fresh_of f ask others new before [] h = refl
fresh_of f ask others new before (x ∷ xs) h =
    and_both (is_new (map f (others ++ before)) (f x))
    (fresh (map f (others ++ before) ++ f x ∷ []) (map f xs))
    (new before x (fits_left (ask before x) (by_earlier ask (before ++ x ∷ []) xs) h))
    (ap (λ l. fresh l (map f xs)) (sym (map-append f (others ++ before) (x ∷ []))
    ∙ ap (map f) (append_assoc others before (x ∷ [])))
    ∙ fresh_of f ask others new (before ++ x ∷ []) xs
    (fits_right (ask before x) (by_earlier ask (before ++ x ∷ []) xs) h))

-- The parts of rule M1.

names_fit : (rec : DeviceRec) → first_broken rec ≡ None → all_fit (names_differ rec) ≡ true
unfolding first_broken
names_fit rec h = fits_none [] (names_differ rec) (no_rule M1 (first_unfit [] (names_differ rec)) _ h)
  where
    no_rule : (rule : Rule) (o : Option Item) (rest : Option (Rule × Item))
        → or_later rule o rest ≡ None → o ≡ None
    no_rule rule None rest h = refl
    no_rule rule (Some item) rest h = absurd (none-some _ (sym h))

record Parts (rec : DeviceRec) : Type 0 where
  types : all_fit (each_by_earlier site_type_names rec.site_type_list) ≡ true
  tiles : all_fit (each_by_earlier tile_names rec.tile_list) ≡ true

parts : (rec : DeviceRec) → all_fit (names_differ rec) ≡ true → Parts rec
unfolding names_differ
parts rec h =
    let a = each_by_earlier site_type_names rec.site_type_list in
    let b = flat_map tile_type_names rec.tile_type_list in
    let c = each_by_earlier tile_names rec.tile_list in
    let d = each_by_earlier cell_names rec.cell_bel_map in
    let abc = fits_left ((a ++ b) ++ c) d h in record {
      types = fits_left a b (fits_left (a ++ b) c abc);
      tiles = fits_right (a ++ b) c abc;
    }

-- Sites, over all tiles.

abbrev site_list : List Tile → List ℕ
site_list tiles = map (λ (s : Site). s.name) (flat_map (λ (t : Tile). t.sites) tiles)

tiles_fresh : (before tiles : List Tile) → all_fit (by_earlier tile_names before tiles) ≡ true
    → fresh (site_list before) (site_list tiles) ≡ true
unfolding by_earlier
tiles_fresh before [] h = refl
tiles_fresh before (t ∷ ts) h =
    ap (fresh (site_list before))
    (map-append (λ (s : Site). s.name) t.sites (flat_map (λ (u : Tile). u.sites) ts))
    ∙ fresh_append (site_list before) (map (λ (s : Site). s.name) t.sites) (site_list ts) here
    (ap (λ l. fresh l (site_list ts)) (sym both) ∙ tiles_fresh (before ++ t ∷ []) ts
    (fits_right (tile_names before t) (by_earlier tile_names (before ++ t ∷ []) ts) h))
  where
    asked_here : all_fit (tile_names before t) ≡ true
    asked_here = fits_left (tile_names before t) (by_earlier tile_names (before ++ t ∷ []) ts) h

    here : fresh (site_list before) (map (λ (s : Site). s.name) t.sites) ≡ true
    here = ap (λ l. fresh (map (λ (s : Site). s.name) l) (map (λ (s : Site). s.name) t.sites))
        (sym (append-nil (flat_map (λ (u : Tile). u.sites) before)))
        ∙ fresh_of (λ (s : Site). s.name) (site_names before)
        (flat_map (λ (u : Tile). u.sites) before) (λ done s fits. and_left _ true fits) [] t.sites
        (and_right (is_new (map (λ (u : Tile). u.name) before) t.name)
        (all_fit (each_by_earlier (site_names before) t.sites)) asked_here)

    both : site_list (before ++ t ∷ []) ≡ site_list before ++ map (λ (s : Site). s.name) t.sites
    both = ap (map (λ (s : Site). s.name))
        (flat_map-append (λ (u : Tile). u.sites) before (t ∷ [])
        ∙ ap (λ l. flat_map (λ (u : Tile). u.sites) before ++ l) (append-nil t.sites))
        ∙ map-append (λ (s : Site). s.name) (flat_map (λ (u : Tile). u.sites) before) t.sites

abbrev name_in : ℕ × Site → ℕ
name_in s = s.1.name

named_sites : (tile : ℕ) (tiles : List Tile) → map name_in (sites_from tile tiles) ≡ site_list tiles
unfolding sites_from
named_sites tile [] = refl
named_sites tile (t ∷ ts) =
    map-append name_in (map (λ s. (tile, s)) t.sites) (sites_from (tile + 1) ts)
    ∙ (ap (λ l. l ++ map name_in (sites_from (tile + 1) ts)) (of_tile t.sites)
    ∙ (ap (λ l. map (λ (s : Site). s.name) t.sites ++ l) (named_sites (tile + 1) ts)
    ∙ sym (map-append (λ (s : Site). s.name) t.sites (flat_map (λ (u : Tile). u.sites) ts))))
  where
    of_tile : (sites : List Site)
        → map name_in (map (λ s. (tile, s)) sites) ≡ map (λ (s : Site). s.name) sites
    of_tile [] = refl
    of_tile (s ∷ ss) = ap (λ l. s.name ∷ l) (of_tile ss)

-- a site is found by its name
pub site_found : (rec : DeviceRec) → first_broken rec ≡ None → (site name : ℕ)
    → name_of_site rec site ≡ Some name → site_named rec name ≡ Some site
site_found rec valid site name h = position_map name_in name (sites_of rec)
    ∙ first_place [] (map name_in (sites_of rec)) site name
    (slice_get-map name_in (sites_of rec) site ∙ h)
    (ap (fresh []) (named_sites 0 rec.tile_list)
    ∙ tiles_fresh [] rec.tile_list (parts rec (names_fit rec valid)).tiles)

-- a site type is found by its name
pub type_found : (rec : DeviceRec) → first_broken rec ≡ None → (k : ℕ) (t : SiteType)
    → slice_get rec.site_type_list k ≡ Some t → site_type_number rec t.name ≡ Some k
type_found rec valid k t at = position_map (λ (u : SiteType). u.name) t.name rec.site_type_list
    ∙ first_place [] (map (λ (u : SiteType). u.name) rec.site_type_list) k t.name
    (slice_get-map (λ (u : SiteType). u.name) rec.site_type_list k
    ∙ ap (λ o. option_map (λ (u : SiteType). u.name) o) at)
    (fresh_of (λ (u : SiteType). u.name) site_type_names [] (λ before u fits. and_left
    (is_new (map (λ (v : SiteType). v.name) before) u.name) _ fits) [] rec.site_type_list
    (parts rec (names_fit rec valid)).types)

-- a BEL is found by its name in its site type
pub bel_found : (rec : DeviceRec) → first_broken rec ≡ None → (k : ℕ) (t : SiteType)
    → slice_get rec.site_type_list k ≡ Some t → (j : ℕ) (b : Bel) → slice_get t.bels j ≡ Some b
    → bel_in b.name t ≡ Some j
bel_found rec valid k t at j b bel_at = position_map (λ (c : Bel). c.name) b.name t.bels
    ∙ first_place [] (map (λ (c : Bel). c.name) t.bels) j b.name
    (slice_get-map (λ (c : Bel). c.name) t.bels j
    ∙ ap (λ o. option_map (λ (c : Bel). c.name) o) bel_at)
    (fresh_of (λ (c : Bel). c.name) bel_names [] (λ before c fits. and_left
    (is_new (map (λ (d : Bel). d.name) before) c.name) true fits) [] t.bels bels_fit)
  where
    fits : all_fit (site_type_names (take k rec.site_type_list) t) ≡ true
    fits = by_earlier_fits site_type_names [] rec.site_type_list k t at
        (parts rec (names_fit rec valid)).types

    bels_fit : all_fit (each_by_earlier bel_names t.bels) ≡ true
    bels_fit = let before = take k rec.site_type_list in
        let a = begun "SiteType"
        ∷ asked "SiteType" "name" (is_new (map (λ u. u.name) before) t.name) ∷ [] in
        let b = each_by_earlier (bel_pin_names t) t.bel_pins in
        let c = each_by_earlier site_pin_names t.pins in
        fits_right ((a ++ b) ++ c) (each_by_earlier bel_names t.bels) fits
