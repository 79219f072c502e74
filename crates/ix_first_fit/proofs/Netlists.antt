-- Netlists, cell by cell.
use Rattle.std.proofs.Common.{IfSome, ◌≡◌, ◌≢◌, refl, ap, sym, subst, ◌∙◌, ℕ, zero, suc, ◌+◌, ◌<◌, List, [], ◌∷◌, ◌++◌, map, take, length, slice_get, Option, Some, None, is_some, is_none, Bool, true, false, ◌||◌, cond, nat_eq, option_map, option_and_then, arith}
use Rattle.std.specs.List.{list_any, AllByRecursion}
use Rattle.std.proofs.lemmas.Bool.{eqb-true, eqb-false, eq-eqb, ne_eqb, false≢true}
use Rattle.std.proofs.lemmas.List.Folds.{list_any-append}
use Rattle.std.proofs.lemmas.List.{length-append, map_push}
use Rattle.std.proofs.lemmas.Option.{same_Some, slice_get_within}
use Rattle.ix_first.specs.First.{or_later}
use Rattle.ix_rec.specs.declared.device.DeviceRec.{DeviceRec}
use Rattle.ix_rec.specs.declared.device.SiteType.{SiteType}
use Rattle.ix_rec.specs.declared.phys.CellPlacement.{CellPlacement}
use Rattle.ix_rec.specs.declared.phys.SiteInstance.{SiteInstance}
use Rattle.ix_rec.specs.declared.device.Bel.{Bel}
use Rattle.ix_rec.specs.declared.phys.PinMapping.{PinMapping}
use Rattle.ix_rec.specs.declared.flow.FlatCell.{FlatCell}
use Rattle.ix_device.specs.Lookups.{type_of_site, name_of_site, sites_of, in_type}
use Rattle.ix_device.specs.Admission.{pins_in}
use Rattle.ix_first_fit.specs.Fit.{FitFirst}
use Rattle.ix_first_fit.proofs.Fitting.{admits_site, admits_within}
use Rattle.ix_first_fit.specs.declared.cell.Spot.{Spot}
use Rattle.ix_first_fit.specs.Spots.{type_at, pins_at, admits}
use Rattle.ix_first_fit.specs.Netlist.{bel_name, pin_told, pin_in, pin_wanted, IsPlacement, with_site, used_after, used_sites, instance_told, instance_wanted}
use Rattle.ix_first_fit.proofs.Walks.{take_next, slice_get_push, slice_get_before}

-- the site type of a site
pub type_found : (rec : DeviceRec) (site t : ℕ) (u : SiteType) → type_of_site rec site ≡ Some t → slice_get rec.site_type_list t ≡ Some u → type_at rec site ≡ Some u
unfolding type_at
type_found rec site t u h e = ap (λ o. option_and_then (λ k. slice_get rec.site_type_list k) o) h ∙ e

-- pins of a site's type are those that are wanted
pub pins_wanted : (rec : DeviceRec) (site bel : ℕ) (u : SiteType) (pins : List (ℕ × ℕ)) → type_at rec site ≡ Some u → map (λ pin. pin_in u bel pin) pins ≡ map (λ pin. pin_wanted rec site bel pin) pins
pins_wanted rec site bel u pins h = ap (λ o. map (λ pin. option_and_then (λ t. pin_in t bel pin) o) pins) (sym h)

-- the placements of the first i cells
pub record PlacedSoFar (rec : DeviceRec) (cells : List FlatCell) (places : List Spot) (i : ℕ) (all : List CellPlacement) : Type 0 where
  pub count : length all ≡ i
  pub each : (k : ℕ) (c : FlatCell) (p : Spot) (m : CellPlacement) → slice_get cells k ≡ Some c → slice_get places k ≡ Some p → slice_get all k ≡ Some m → IsPlacement rec c p m

pub placed_step : (rec : DeviceRec) (cells : List FlatCell) (places : List Spot) (i : ℕ) (all new : List CellPlacement) (c : FlatCell) (p : Spot) (m : CellPlacement) → slice_get cells i ≡ Some c → slice_get places i ≡ Some p
    → PlacedSoFar rec cells places i all → IsPlacement rec c p m → new ≡ all ++ m ∷ [] → PlacedSoFar rec cells places (i + 1) new
placed_step rec cells places i all new c p m at_c at_p so here is = record {
  count = ap length is ∙ length-append all (m ∷ []) ∙ ap (λ n. n + 1) so.count;
  each = λ k d q n kd kq kn. by k d q n (nat_eq k i) refl kd kq (sym (ap (λ l. slice_get l k) is) ∙ kn);
}
  where
    by : (k : ℕ) (d : FlatCell) (q : Spot) (n : CellPlacement) (b : Bool) → nat_eq k i ≡ b → slice_get cells k ≡ Some d → slice_get places k ≡ Some q → slice_get (all ++ m ∷ []) k ≡ Some n → IsPlacement rec d q n
    by k d q n true e kd kq kn =
        let last : k ≡ i = eqb-true k i e in
        let d_is : c ≡ d = same_Some c d (sym at_c ∙ ap (slice_get cells) (sym last) ∙ kd) in
        let q_is : p ≡ q = same_Some p q (sym at_p ∙ ap (slice_get places) (sym last) ∙ kq) in
        let n_is : m ≡ n = same_Some m n (sym (slice_get_push all m) ∙ ap (slice_get (all ++ m ∷ [])) (so.count ∙ sym last) ∙ kn) in
        subst (λ x. IsPlacement rec d q x) n_is (subst (λ x. IsPlacement rec d x m) q_is (subst (λ x. IsPlacement rec x p m) d_is here))
    by k d q n false e kd kq kn =
        let ne : k ≢ i = eqb-false k i e in
        let within = slice_get_within (all ++ m ∷ []) k n kn in
        let len = length-append all (m ∷ []) in
        let count = so.count in
        let lt : k < length all = omega arith in so.each k d q n kd kq (sym (slice_get_before all m k lt) ∙ kn)

-- one more place
used_push : (sites : List ℕ) (ps : List Spot) (p : Spot) → used_after sites (ps ++ p ∷ []) ≡ with_site (used_after sites ps) p.site
unfolding used_after
used_push sites [] p = refl
used_push sites (q ∷ qs) p = used_push (with_site sites q.site) qs p

pub used_start : (ps : List Spot) → used_sites (take 0 ps) ≡ []
unfolding used_after
used_start ps = refl

-- the sites of the first i places
pub record UsedSoFar (rec : DeviceRec) (places : List Spot) (i : ℕ) (table : ℕ → Option (Unit {0})) (all : List SiteInstance) : Type 0 where
  pub used : (q : ℕ) → is_some (table q) ≡ list_any (λ t. nat_eq q t) (used_sites (take i places))
  pub told : map instance_told all ≡ map (λ site. instance_wanted rec site) (used_sites (take i places))

nat_eq_sym : (a b : ℕ) → nat_eq a b ≡ nat_eq b a
nat_eq_sym a b = by (nat_eq a b) refl
  where
    by : (t : Bool) → nat_eq a b ≡ t → t ≡ nat_eq b a
    by true h = sym (eq-eqb b a (sym (eqb-true a b h)))
    by false h = sym (ne_eqb b a (λ e. eqb-false a b h (sym e)))

pub with_used : (sites : List ℕ) (s q : ℕ) → list_any (λ t. nat_eq q t) (with_site sites s) ≡ (list_any (λ t. nat_eq q t) sites || nat_eq s q)
with_used sites s q = by (list_any (λ t. nat_eq s t) sites) refl
  where
    there : (b : Bool) → nat_eq s q ≡ b → list_any (λ t. nat_eq s t) sites ≡ true → list_any (λ t. nat_eq q t) sites ≡ (list_any (λ t. nat_eq q t) sites || b)
    there true e h = subst (λ x. list_any (λ t. nat_eq x t) sites ≡ (list_any (λ t. nat_eq x t) sites || true)) (eqb-true s q e) (h ∙ sym (ap (λ b. b || true) h))
    there false e h = same (list_any (λ t. nat_eq q t) sites)
      where
        same : (b : Bool) → b ≡ (b || false)
        same true = refl
        same false = refl

    by : (b : Bool) → list_any (λ t. nat_eq s t) sites ≡ b → list_any (λ t. nat_eq q t) (cond b sites (sites ++ s ∷ [])) ≡ (list_any (λ t. nat_eq q t) sites || nat_eq s q)
    by true h = there (nat_eq s q) refl h
    by false h = list_any-append (λ t. nat_eq q t) sites (s ∷ []) ∙ ap (λ b. list_any (λ t. nat_eq q t) sites || b) (one (nat_eq q s) ∙ nat_eq_sym q s)
      where
        one : (b : Bool) → (b || false) ≡ b
        one true = refl
        one false = refl

-- one more place, whose site may be new
pub used_step : (rec : DeviceRec) (places : List Spot) (i : ℕ) (old new : ℕ → Option (Unit {0})) (all all' : List SiteInstance) (p : Spot) → slice_get places i ≡ Some p → UsedSoFar rec places i old all
    → ((q : ℕ) → new q ≡ or_later (old q) (nat_eq p.site q) (tt {0})) → map instance_told all' ≡ map (λ site. instance_wanted rec site) (with_site (used_sites (take i places)) p.site) → UsedSoFar rec places (i + 1) new all'
used_step rec places i old new all all' p at so step told = record {
  used = λ q. ap is_some (step q) ∙ later (old q) (nat_eq p.site q) ∙ ap (λ b. b || nat_eq p.site q) (so.used q) ∙ sym (with_used (used_sites (take i places)) p.site q) ∙ ap (list_any (λ t. nat_eq q t)) (sym next);
  told = told ∙ ap (map (λ site. instance_wanted rec site)) (sym next);
}
  where
    next : used_sites (take (i + 1) places) ≡ with_site (used_sites (take i places)) p.site
    next = ap used_sites (take_next places i p at) ∙ used_push [] (take i places) p

    later : (o : Option (Unit {0})) (b : Bool) → is_some (or_later o b (tt {0})) ≡ (is_some o || b)
    later None true = refl
    later None false = refl
    later (Some u) b = refl

-- a site that is new has an instance more
pub new_site : (rec : DeviceRec) (sites : List ℕ) (s : ℕ) (all : List SiteInstance) (m : SiteInstance) → list_any (λ t. nat_eq s t) sites ≡ false → map instance_told all ≡ map (λ site. instance_wanted rec site) sites
    → instance_told m ≡ instance_wanted rec s → map instance_told (all ++ m ∷ []) ≡ map (λ site. instance_wanted rec site) (with_site sites s)
new_site rec sites s all m fresh told here =
    map_push instance_told all m ∙ ap (λ l. l ++ instance_told m ∷ []) told ∙ ap (λ x. map (λ site. instance_wanted rec site) sites ++ x ∷ []) here ∙ sym (map_push (λ site. instance_wanted rec site) sites s)
    ∙ ap (map (λ site. instance_wanted rec site)) (sym (ap (λ b. cond b sites (sites ++ s ∷ [])) fresh))

pub old_site : (rec : DeviceRec) (sites : List ℕ) (s : ℕ) (all : List SiteInstance) → list_any (λ t. nat_eq s t) sites ≡ true → map instance_told all ≡ map (λ site. instance_wanted rec site) sites
    → map instance_told all ≡ map (λ site. instance_wanted rec site) (with_site sites s)
old_site rec sites s all used told = told ∙ ap (map (λ site. instance_wanted rec site)) (sym (ap (λ b. cond b sites (sites ++ s ∷ [])) used))

-- what the same record says
pub type_told : (rec r : DeviceRec) (k t : ℕ) (u : SiteType) → r ≡ rec → k ≡ t → slice_get r.site_type_list k ≡ Some u → slice_get rec.site_type_list t ≡ Some u
type_told rec r k t u same is h = ap (λ x. slice_get x.site_type_list t) (sym same) ∙ ap (slice_get r.site_type_list) (sym is) ∙ h

pub instance_is : (rec : DeviceRec) (site t name : ℕ) (u : SiteType) → name_of_site rec site ≡ Some name → type_of_site rec site ≡ Some t → slice_get rec.site_type_list t ≡ Some u → Some (name, u.name) ≡ instance_wanted rec site
instance_is rec site t name u named h e =
    sym (ap (λ o. option_and_then (λ n. option_map (λ v. (n, v.name)) (type_at rec site)) o) named ∙ ap (option_map (λ v. (name, v.name))) (type_found rec site t u h e))

pub used_init : (rec : DeviceRec) (places : List Spot) (table : ℕ → Option (Unit {0})) (all : List SiteInstance) → ((q : ℕ) → table q ≡ None) → all ≡ [] → UsedSoFar rec places 0 table all
used_init rec places table all none empty = record {
  used = λ q. ap is_some (none q) ∙ sym (ap (list_any (λ t. nat_eq q t)) (used_start places));
  told = ap (map instance_told) empty ∙ sym (ap (map (λ site. instance_wanted rec site)) (used_start places));
}

pub not_there : {A : Type 0} (o : Option A) → is_none o ≡ true → is_some o ≡ false
not_there None h = refl
not_there (Some x) h = absurd (false≢true h)

-- one more pin was named
pub pin_step : (u : SiteType) (bel : ℕ) (pins : List (ℕ × ℕ)) (i : ℕ) (named new : List PinMapping) (x : ℕ × ℕ) (m : PinMapping) → slice_get pins i ≡ Some x → pin_told m ≡ pin_in u bel x
    → map pin_told named ≡ map (λ pin. pin_in u bel pin) (take i pins) → new ≡ named ++ m ∷ [] → map pin_told new ≡ map (λ pin. pin_in u bel pin) (take (i + 1) pins)
pin_step u bel pins i named new x m at told before is =
    ap (map pin_told) is ∙ map_push pin_told named m ∙ ap (λ l. l ++ pin_told m ∷ []) before ∙ ap (λ y. map (λ pin. pin_in u bel pin) (take i pins) ++ y ∷ []) told
    ∙ sym (map_push (λ pin. pin_in u bel pin) (take i pins) x) ∙ ap (map (λ pin. pin_in u bel pin)) (sym (take_next pins i x at))

pub pins_at_is : (rec : DeviceRec) (ty t : ℕ) (p : Spot) → type_of_site rec p.site ≡ Some t → pins_at rec ty p ≡ in_type (pins_in rec ty p.bel) rec t
unfolding pins_at type_at
pins_at_is rec ty t p h = ap (λ o. option_and_then (λ u. pins_in rec ty p.bel u) (option_and_then (λ k. slice_get rec.site_type_list k) o)) h

-- the BEL of a place that admits something is one of its site's type
pub bel_there : (rec : DeviceRec) (ty t : ℕ) (p : Spot) (u : SiteType) → type_of_site rec p.site ≡ Some t → slice_get rec.site_type_list t ≡ Some u → admits rec ty p ≡ true → p.bel < length u.bels
bel_there rec ty t p u h e adm = admits_within rec ty p.site t (length u.bels) p.bel h (subst (λ o. IfSome o (λ v. length u.bels ≡ length v.bels)) (sym e) refl) adm

pub bel_named : (rec : DeviceRec) (t : ℕ) (p : Spot) (u : SiteType) (b : Bel) → type_of_site rec p.site ≡ Some t → slice_get rec.site_type_list t ≡ Some u → slice_get u.bels p.bel ≡ Some b → bel_name rec p ≡ Some b.name
bel_named rec t p u b h e at = ap (λ o. option_and_then (λ v. option_map (λ x. x.name) (slice_get v.bels p.bel)) o) (type_found rec p.site t u h e) ∙ ap (option_map (λ x. x.name)) at

all_from_places : {A : Type 0} (P : A → Type 0) (xs : List A) → ((k : ℕ) (x : A) → slice_get xs k ≡ Some x → P x) → AllByRecursion P xs
all_from_places P [] h = tt
all_from_places P (x ∷ xs) h = (h 0 x refl, all_from_places P xs (λ k. h (suc k)))

pub item_at : {A : Type 0} (xs : List A) (k : ℕ) → k < length xs → (x : A) × (slice_get xs k ≡ Some x)
item_at [] k h = absurd (omega arith)
item_at (x ∷ xs) zero h = (x, refl)
item_at (x ∷ xs) (suc k) h = item_at xs k (omega arith)

-- the places' sites are there
pub fit_sites : (rec : DeviceRec) (cells : List FlatCell) (places : List Spot) → FitFirst rec cells places → length places ≡ length cells → AllByRecursion (λ p. p.site < length (sites_of rec)) places
fit_sites rec cells places fit count = all_from_places (λ p. p.site < length (sites_of rec)) places (λ k p at. by k p at (item_at cells k (let lt = slice_get_within places k p at in omega arith)))
  where
    by : (k : ℕ) (p : Spot) → slice_get places k ≡ Some p → (c : FlatCell) × (slice_get cells k ≡ Some c) → p.site < length (sites_of rec)
    by k p at found = admits_site rec found.0.ty p (fit.each k found.0 p found.1 at).admitted
