-- First fit, cell by cell.
use Rattle.std.proofs.Common.{◌≡◌, ◌≢◌, refl, ap, sym, subst, ◌∙◌, inl, inr, ◌⊎◌, IfSome, ℕ, zero, suc, ◌+◌, ◌<◌, ◌≤◌, List, [], ◌∷◌, ◌++◌, take, length, slice_get, Option, Some, None, is_some, Bool, true, false, ◌||◌, ◌&&◌, cond, nat_eq, nat_lt, option_map, option_and_then, arith}
use Rattle.std.proofs.lemmas.Bool.{eqb-true, eqb-false, eq-eqb, ne_eqb, false≢true}
use Rattle.std.proofs.lemmas.List.Folds.{list_any-append}
use Rattle.std.proofs.lemmas.List.{length-append}
use borrow.Author.Tests.{ltb-true, ltb-false}
use Rattle.std.proofs.lemmas.Option.{same_Some, slice_get_within}
use Rattle.ix_keys.specs.Keys.{key_eq}
use Rattle.ix_first.specs.First.{or_later}
use Rattle.ix_rec.specs.declared.device.DeviceRec.{DeviceRec}
use Rattle.ix_rec.specs.declared.device.SiteType.{SiteType}
use Rattle.ix_rec.specs.declared.device.Bel.{Bel}
use Rattle.ix_rec.specs.declared.device.Site.{Site}
use Rattle.ix_rec.specs.declared.flow.FlatCell.{FlatCell}
use Rattle.ix_device.specs.Lookups.{type_of_site, type_of_tile, sites_of}
use Rattle.ix_device.specs.Admission.{pins_in, admitted}
use Rattle.ix_first_fit.specs.declared.cell.Spot.{Spot}
use Rattle.ix_first_fit.specs.Spots.{type_at, pins_at, admits, spot, spot_eq, IsBefore, is_taken}
use Rattle.ix_first_fit.specs.Fit.{IsFirstFree, FitFirst}
use Rattle.ix_first_fit.specs.Taken.{spot_key, NoneBefore, NoneWithin, IsFreeBel, IsFirstBel}
use Rattle.ix_first_fit.proofs.Walks.{slice_get_push, slice_get_before}

-- the places with one more
pub taken_push : (places : List Spot) (s p : Spot) → is_taken (places ++ s ∷ []) p ≡ (is_taken places p || spot_eq p s)
taken_push places s p = list_any-append (λ q. spot_eq p q) places (s ∷ []) ∙ by (spot_eq p s)
  where
    by : (b : Bool) → (is_taken places p || (b || false)) ≡ (is_taken places p || b)
    by true = refl
    by false = refl

-- a taken place stays taken
pub taken_stays : (places : List Spot) (s p : Spot) → is_taken places p ≡ true → is_taken (places ++ s ∷ []) p ≡ true
taken_stays places s p h = taken_push places s p ∙ ap (λ b. b || spot_eq p s) h

nat_eq_sym : (a b : ℕ) → nat_eq a b ≡ nat_eq b a
nat_eq_sym a b = by (nat_eq a b) refl
  where
    by : (t : Bool) → nat_eq a b ≡ t → t ≡ nat_eq b a
    by true h = sym (eq-eqb b a (sym (eqb-true a b h)))
    by false h = sym (ne_eqb b a (λ e. eqb-false a b h (sym e)))

key_same : (s p : Spot) → key_eq (spot_key s) (spot_key p) ≡ spot_eq p s
key_same s p = ap (λ b. b && (nat_eq s.bel p.bel && true)) (nat_eq_sym s.site p.site) ∙ ap (λ b. nat_eq p.site s.site && (b && true)) (nat_eq_sym s.bel p.bel) ∙ ap (λ b. nat_eq p.site s.site && b) (by (nat_eq p.bel s.bel))
  where
    by : (b : Bool) → (b && true) ≡ b
    by true = refl
    by false = refl

-- the table of the places with one more
pub table_push : (places : List Spot) (s : Spot) (old new : Spot → Option (Unit {0})) → ((p : Spot) → is_some (old p) ≡ is_taken places p)
    → ((p : Spot) → new p ≡ or_later (old p) (key_eq (spot_key s) (spot_key p)) (tt {0})) → (p : Spot) → is_some (new p) ≡ is_taken (places ++ s ∷ []) p
table_push places s old new before step p =
    ap is_some (step p) ∙ by (old p) (key_eq (spot_key s) (spot_key p)) ∙ ap (λ b. b || key_eq (spot_key s) (spot_key p)) (before p) ∙ ap (λ b. is_taken places p || b) (key_same s p) ∙ sym (taken_push places s p)
  where
    by : (o : Option (Unit {0})) (b : Bool) → is_some (or_later o b (tt {0})) ≡ (is_some o || b)
    by None true = refl
    by None false = refl
    by (Some u) b = refl

-- one BEL more that isn't free
pub within_step : (rec : DeviceRec) (taken : List Spot) (ty site first k : ℕ) → NoneWithin rec taken ty site first k → (admits rec ty (spot site k) ≡ true → is_taken taken (spot site k) ≡ true)
    → NoneWithin rec taken ty site first (k + 1)
within_step rec taken ty site first k before here b from lt = by (nat_eq b k) refl
  where
    by : (t : Bool) → nat_eq b k ≡ t → admits rec ty (spot site b) ≡ true → is_taken taken (spot site b) ≡ true
    by true e = subst (λ x. admits rec ty (spot site x) ≡ true → is_taken taken (spot site x) ≡ true) (sym (eqb-true b k e)) here
    by false e = before b from (let ne : b ≢ k = eqb-false b k e in omega arith)

-- only a BEL of the site's type admits anything
pins_within : (rec : DeviceRec) (ty bel : ℕ) (u : SiteType) → is_some (pins_in rec ty bel u) ≡ true → bel < length u.bels
unfolding pins_in
pins_within rec ty bel u h = by (slice_get u.bels bel) refl h
  where
    by : (o : Option Bel) → slice_get u.bels bel ≡ o → is_some (option_and_then (λ b. admitted rec ty u bel b) o) ≡ true → bel < length u.bels
    by None e g = absurd (false≢true g)
    by (Some x) e g = slice_get_within u.bels bel x e

pub admits_within : (rec : DeviceRec) (ty site t n b : ℕ) → type_of_site rec site ≡ Some t → IfSome (slice_get rec.site_type_list t) (λ u. n ≡ length u.bels) → admits rec ty (spot site b) ≡ true → b < n
unfolding admits pins_at type_at
admits_within rec ty site t n b h told passes =
    by (slice_get rec.site_type_list t) told (ap (λ o. is_some (option_and_then (λ u. pins_in rec ty b u) (option_and_then (λ k. slice_get rec.site_type_list k) o))) (sym h) ∙ passes)
  where
    by : (o : Option SiteType) → IfSome o (λ u. n ≡ length u.bels) → is_some (option_and_then (λ u. pins_in rec ty b u) o) ≡ true → b < n
    by None same g = absurd (false≢true g)
    by (Some u) same g = let lt = pins_within rec ty b u g in omega arith

pub admits_site : (rec : DeviceRec) (ty : ℕ) (p : Spot) → admits rec ty p ≡ true → p.site < length (sites_of rec)
unfolding admits pins_at type_at
admits_site rec ty p h = by (slice_get (sites_of rec) p.site) refl
  where
    asked : Option (ℕ × Site) → Bool
    asked o = is_some (option_and_then (λ t. pins_in rec ty p.bel t) (option_and_then (λ t. slice_get rec.site_type_list t) (option_and_then (λ s. option_and_then (λ u. option_map (λ v. v.primary_type) (slice_get u.site_types s.1.ty)) (type_of_tile rec s.0)) o)))

    by : (o : Option (ℕ × Site)) → slice_get (sites_of rec) p.site ≡ o → p.site < length (sites_of rec)
    by None e = absurd (false≢true (sym (ap asked e) ∙ h))
    by (Some s) e = slice_get_within (sites_of rec) p.site s e

le_or_lt : (m n : ℕ) → (m ≤ n) ⊎ (n < m)
le_or_lt m n = by (nat_lt n m) refl
  where
    by : (b : Bool) → nat_lt n m ≡ b → (m ≤ n) ⊎ (n < m)
    by true h = inr (ltb-true n m h)
    by false h = inl (ltb-false n m h)

-- after a site without a free BEL comes the next site's first
pub next_site : (rec : DeviceRec) (taken : List Spot) (ty site first : ℕ) → NoneBefore rec taken ty (spot site first) → IsFirstBel rec taken ty site first None → NoneBefore rec taken ty (spot (site + 1) 0)
next_site rec taken ty site first before none q (inr h) = absurd (omega arith)
next_site rec taken ty site first before none q (inl lt) = by (nat_eq q.site site) refl
  where
    later : (nat_eq q.site site ≡ true) → (first ≤ q.bel) ⊎ (q.bel < first) → admits rec ty q ≡ true → is_taken taken q ≡ true
    later e (inl le) = subst (λ s. admits rec ty (spot s q.bel) ≡ true → is_taken taken (spot s q.bel) ≡ true) (sym (eqb-true q.site site e)) (none q.bel le)
    later e (inr lt) = before q (inr (eqb-true q.site site e, lt))

    by : (t : Bool) → nat_eq q.site site ≡ t → admits rec ty q ≡ true → is_taken taken q ≡ true
    by true e = later e (le_or_lt first q.bel)
    by false e = before q (inl (let ne : q.site ≢ site = eqb-false q.site site e in omega arith))

-- a free BEL of a site, those before which are taken, is the first free place
pub found_spot : (rec : DeviceRec) (taken : List Spot) (ty site first b : ℕ) → NoneBefore rec taken ty (spot site first) → IsFreeBel rec taken ty site first b → IsFirstFree rec taken ty (spot site b)
found_spot rec taken ty site first b before found = record {
  admitted = found.admitted;
  free = found.free;
  first = by;
}
  where
    by : (q : Spot) → IsBefore q (spot site b) → admits rec ty q ≡ true → is_taken taken q ≡ true
    by q (inl lt) = before q (inl lt)
    by q (inr same) = later (le_or_lt first q.bel)
      where
        later : (first ≤ q.bel) ⊎ (q.bel < first) → admits rec ty q ≡ true → is_taken taken q ≡ true
        later (inl le) = subst (λ s. admits rec ty (spot s q.bel) ≡ true → is_taken taken (spot s q.bel) ≡ true) (sym same.0) (found.first_so q.bel le same.1)
        later (inr lt) = before q (inr (same.0, lt))

-- what holds before cell i
pub record FitsSoFar (rec : DeviceRec) (cells : List FlatCell) (i : ℕ) (places : List Spot) (last : ℕ → Option Spot) : Type 0 where
  pub fit : FitFirst rec cells places
  pub count : length places ≡ i
  pub before : (q : ℕ) (p : Spot) → last q ≡ Some p → NoneBefore rec places q p

take_front : {A : Type 0} (xs ys : List A) → take (length xs) (xs ++ ys) ≡ xs
take_front [] ys = refl
take_front (x ∷ xs) ys = ap (λ l. x ∷ l) (take_front xs ys)

take_before : {A : Type 0} (xs ys : List A) (k : ℕ) → k < length xs → take k (xs ++ ys) ≡ take k xs
take_before [] ys k h = absurd (omega arith)
take_before (x ∷ xs) ys zero h = refl
take_before (x ∷ xs) ys (suc k) h = ap (λ l. x ∷ l) (take_before xs ys k (omega arith))

-- places where each is the first free one, and one more such
pub fit_push : (rec : DeviceRec) (cells : List FlatCell) (places : List Spot) (c : FlatCell) (s : Spot) → slice_get cells (length places) ≡ Some c → FitFirst rec cells places → IsFirstFree rec places c.ty s
    → FitFirst rec cells (places ++ s ∷ [])
fit_push rec cells places c s at fit here = record { each = λ k d p atk pk. by k d p (nat_eq k (length places)) refl atk pk }
  where
    by : (k : ℕ) (d : FlatCell) (p : Spot) (b : Bool) → nat_eq k (length places) ≡ b → slice_get cells k ≡ Some d → slice_get (places ++ s ∷ []) k ≡ Some p → IsFirstFree rec (take k (places ++ s ∷ [])) d.ty p
    by k d p true e atk pk =
        let last : k ≡ length places = eqb-true k (length places) e in
        let d_is : c ≡ d = same_Some c d (sym at ∙ ap (slice_get cells) (sym last) ∙ atk) in
        let p_is : s ≡ p = same_Some s p (sym (slice_get_push places s) ∙ ap (slice_get (places ++ s ∷ [])) (sym last) ∙ pk) in
        let front : places ≡ take k (places ++ s ∷ []) = sym (ap (λ n. take n (places ++ s ∷ [])) last ∙ take_front places (s ∷ [])) in
        subst (λ l. IsFirstFree rec l d.ty p) front (subst (λ x. IsFirstFree rec places d.ty x) p_is (subst (λ x. IsFirstFree rec places x.ty s) d_is here))
    by k d p false e atk pk =
        let ne : k ≢ length places = eqb-false k (length places) e in
        let within = slice_get_within (places ++ s ∷ []) k p pk in
        let len = length-append places (s ∷ []) in
        let lt : k < length places = omega arith in
        subst (λ l. IsFirstFree rec l d.ty p) (sym (take_before places (s ∷ []) k lt)) (fit.each k d p atk (sym (slice_get_before places s k lt) ∙ pk))

-- one more cell was placed
pub fits_step : (rec : DeviceRec) (cells : List FlatCell) (i : ℕ) (places new : List Spot) (old last : ℕ → Option Spot) (c : FlatCell) (s : Spot) → slice_get cells i ≡ Some c → FitsSoFar rec cells i places old → IsFirstFree rec places c.ty s
    → new ≡ places ++ s ∷ [] → ((q : ℕ) → last q ≡ cond (nat_eq c.ty q) (Some s) (old q)) → FitsSoFar rec cells (i + 1) new last
fits_step rec cells i places new old last c s at so here is step = record {
  fit = subst (λ l. FitFirst rec cells l) (sym is) (fit_push rec cells places c s (ap (slice_get cells) so.count ∙ at) so.fit here);
  count = ap length is ∙ length-append places (s ∷ []) ∙ ap (λ n. n + 1) so.count;
  before = λ q p e a first adm. ap (λ l. is_taken l a) is ∙ taken_stays places s a (by q p (nat_eq c.ty q) refl (sym (step q) ∙ e) a first adm);
}
  where
    by : (q : ℕ) (p : Spot) (b : Bool) → nat_eq c.ty q ≡ b → cond b (Some s) (old q) ≡ Some p → NoneBefore rec places q p
    by q p true g e = subst (λ x. NoneBefore rec places x p) (eqb-true c.ty q g) (subst (λ x. NoneBefore rec places c.ty x) (same_Some s p e) here.first)
    by q p false g e = so.before q p e
