-- What a device that breaks no rule has: site types of different names.
use Rattle.std.proofs.Common.{◌≡◌, refl, ap, sym, ◌∙◌, ℕ, zero, suc, ◌+◌, Bool, true, false, true≢false, not, ◌&&◌, ◌||◌, nat_eq, List, [], ◌∷◌, ◌++◌, map, take, drop, length, slice_get, position, Option, Some, None, is_some, append_assoc, append-nil, take-append-drop}
use Rattle.std.specs.List.{list_any, flat_map}
use Rattle.std.proofs.lemmas.Option.{none-some, same_Some}
use Rattle.std.proofs.lemmas.Bool.{eq-eqb}
use Rattle.ix_message.specs.Indexes.{Step, begun, asked, Item, first_unfit}
use Rattle.ix_rec.specs.declared.device.DeviceRec.{DeviceRec}
use Rattle.ix_rec.specs.declared.device.SiteType.{SiteType}
use Rattle.ix_rec.specs.declared.place.Rule.{Rule}
use Rattle.ix_rec.specs.declared.place.Rule.TheVariants.{M1}
use Rattle.ix_device_rules.specs.Rules.{is_new, by_earlier, each_by_earlier, site_type_names, tile_type_names, tile_names, cell_names, names_differ, or_later as later_rule, first_broken}
use Rattle.ix_first.specs.First.{or_later}
use Rattle.ix_device.specs.Premises.{TypesDiffer}
use Rattle.ix_device.proofs.FirstPlaces.{position-push, is_some_position, one_more_place}
use Rattle.ix_device.proofs.Differing.{nat_eq_sym}

-- every field that is asked fits
abbrev pub all_fit : List Step → Bool
all_fit [] = true
all_fit (begun kind ∷ rest) = all_fit rest
all_fit (asked kind field fit ∷ rest) = fit && all_fit rest

pub fits_none : (before steps : List Step) → first_unfit before steps ≡ None → all_fit steps ≡ true
unfolding first_unfit
fits_none before [] h = refl
fits_none before (begun kind ∷ rest) h = fits_none (before ++ begun kind ∷ []) rest h
fits_none before (asked kind field true ∷ rest) h = fits_none before rest h
fits_none before (asked kind field false ∷ rest) h = absurd (none-some _ (sym h))

pub all_fit_append : (xs ys : List Step) → all_fit (xs ++ ys) ≡ (all_fit xs && all_fit ys)
all_fit_append [] ys = refl
all_fit_append (begun kind ∷ xs) ys = all_fit_append xs ys
all_fit_append (asked kind field true ∷ xs) ys = all_fit_append xs ys
all_fit_append (asked kind field false ∷ xs) ys = refl

pub and_left : (a b : Bool) → (a && b) ≡ true → a ≡ true
and_left true b h = refl
and_left false b h = h

pub and_right : (a b : Bool) → (a && b) ≡ true → b ≡ true
and_right true b h = h
and_right false b h = absurd (true≢false (sym h))

-- what was asked of an item, by those before it, fits
pub by_earlier_fits : {A : Type 0} (ask : List A → A → List Step) (before xs : List A) (k : ℕ) (x : A) → slice_get xs k ≡ Some x → all_fit (by_earlier ask before xs) ≡ true → all_fit (ask (before ++ take k xs) x) ≡ true
unfolding by_earlier
by_earlier_fits ask before [] k x at h = absurd (none-some x at)
by_earlier_fits ask before (y ∷ ys) zero x at h =
    ap (λ l. all_fit (ask l x)) (append-nil before) ∙ ap (λ z. all_fit (ask before z)) (sym (same_Some y x at)) ∙ and_left (all_fit (ask before y)) (all_fit (by_earlier ask (before ++ y ∷ []) ys)) (sym (all_fit_append (ask before y) (by_earlier ask (before ++ y ∷ []) ys)) ∙ h)
by_earlier_fits ask before (y ∷ ys) (suc k) x at h =
    ap (λ l. all_fit (ask l x)) (sym (append_assoc before (y ∷ []) (take k ys)))
    ∙ by_earlier_fits ask (before ++ y ∷ []) ys k x at (and_right (all_fit (ask before y)) (all_fit (by_earlier ask (before ++ y ∷ []) ys)) (sym (all_fit_append (ask before y) (by_earlier ask (before ++ y ∷ []) ys)) ∙ h))

pub no_rule : (rule : Rule) (o : Option Item) (rest : Option (Rule × Item)) → later_rule rule o rest ≡ None → o ≡ None
no_rule rule None rest h = refl
no_rule rule (Some item) rest h = absurd (none-some _ (sym h))

names_fit : (rec : DeviceRec) → first_broken rec ≡ None → all_fit (names_differ rec) ≡ true
unfolding first_broken
names_fit rec h = fits_none [] (names_differ rec) (no_rule M1 (first_unfit [] (names_differ rec)) _ h)

types_fit : (rec : DeviceRec) → all_fit (names_differ rec) ≡ true → all_fit (each_by_earlier site_type_names rec.site_type_list) ≡ true
unfolding names_differ
types_fit rec h =
    let a = each_by_earlier site_type_names rec.site_type_list in
    let b = flat_map tile_type_names rec.tile_type_list in
    let c = each_by_earlier tile_names rec.tile_list in
    let d = each_by_earlier cell_names rec.cell_bel_map in
    let abc = and_left (all_fit ((a ++ b) ++ c)) (all_fit d) (sym (all_fit_append ((a ++ b) ++ c) d) ∙ h) in
    let ab = and_left (all_fit (a ++ b)) (all_fit c) (sym (all_fit_append (a ++ b) c) ∙ abc) in
    and_left (all_fit a) (all_fit b) (sym (all_fit_append a b) ∙ ab)

-- the first place stays where the list goes on
pub place_stays : {A : Type 0} (p : A → Bool) (xs ys : List A) (k : ℕ) → position p xs ≡ Some k → position p (xs ++ ys) ≡ Some k
place_stays p xs [] k h = ap (position p) (append-nil xs) ∙ h
place_stays p xs (y ∷ ys) k h = ap (position p) (sym (append_assoc xs (y ∷ []) ys)) ∙ place_stays p (xs ++ y ∷ []) ys k (position-push p xs y ∙ ap (λ o. or_later o (p y) (length xs)) h)

no_place : {A : Type 0} (p : A → Bool) (xs : List A) → list_any p xs ≡ false → position p xs ≡ None
no_place p xs h = by (position p xs) (is_some_position p xs ∙ h)
  where
    by : (o : Option ℕ) → is_some o ≡ false → o ≡ None
    by None e = refl
    by (Some k) e = absurd (true≢false e)

any_named : (name : ℕ) (xs : List SiteType) → list_any (λ u. nat_eq u.name name) xs ≡ list_any (nat_eq name) (map (λ u. u.name) xs)
any_named name [] = refl
any_named name (x ∷ xs) = ap (λ b. b || list_any (λ u. nat_eq u.name name) xs) (nat_eq_sym x.name name) ∙ ap (λ b. nat_eq name x.name || b) (any_named name xs)

not_true : (b : Bool) → not b ≡ true → b ≡ false
not_true true h = sym h
not_true false h = refl

eq_refl : (n : ℕ) → nat_eq n n ≡ true
eq_refl n = eq-eqb n n refl

-- The site types of a device that breaks no rule have different names.
pub types_differ : (rec : DeviceRec) → first_broken rec ≡ None → TypesDiffer rec.site_type_list
types_differ rec valid k t at =
    let types = rec.site_type_list in
    let fits = by_earlier_fits site_type_names [] types k t at (types_fit rec (names_fit rec valid)) in
    let fresh = and_left (is_new (map (λ u. u.name) (take k types)) t.name) _ fits in
    let none = no_place (λ u. nat_eq u.name t.name) (take k types) (any_named t.name (take k types) ∙ not_true (list_any (nat_eq t.name) (map (λ u. u.name) (take k types))) fresh) in
    let here : position (λ u. nat_eq u.name t.name) (take (k + 1) types) ≡ Some k = sym (one_more_place (λ u. nat_eq u.name t.name) types k t None at (sym none)) ∙ ap (λ b. or_later None b k) (eq_refl t.name) in
    ap (position (λ u. nat_eq u.name t.name)) (sym (take-append-drop (k + 1) types)) ∙ place_stays (λ u. nat_eq u.name t.name) (take (k + 1) types) (drop (k + 1) types) k here
