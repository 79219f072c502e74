-- No two cells have one place, and no site two instances.
use Rattle.std.proofs.Common.{◌≡◌, ◌≢◌, refl, ap, sym, ◌∙◌, inl, inr, ◌⊎◌, ℕ, zero, suc, ◌<◌, ◌≤◌, List, [], ◌∷◌, ◌++◌, take, length, slice_get, Some, Bool, true, false, ◌||◌, ◌&&◌, cond, nat_eq, arith}
use Rattle.std.specs.List.{list_any}
use Rattle.std.proofs.lemmas.Bool.{eqb-true, eqb-false, eq-eqb, true≢false, cases_lt}
use Rattle.std.proofs.lemmas.Map.Keys.{any_passes_from_place}
use Rattle.std.proofs.lemmas.List.{length-append}
use Rattle.std.proofs.lemmas.Option.{same_Some, none-some, slice_get_within}
use Rattle.ix_rec.specs.declared.device.DeviceRec.{DeviceRec}
use Rattle.ix_rec.specs.declared.flow.FlatCell.{FlatCell}
use Rattle.ix_first_fit.specs.declared.cell.Spot.{Spot}
use Rattle.ix_first_fit.specs.Spots.{spot_eq, is_taken}
use Rattle.ix_first_fit.specs.Fit.{FitFirst}
use Rattle.ix_first_fit.specs.Netlist.{with_site, used_after}
use Rattle.ix_first_fit.specs.Laws.{Differ, FitsHaveOwnPlaces}
use Rattle.ix_first_fit.proofs.Walks.{slice_get_push, slice_get_before}
use Rattle.ix_first_fit.proofs.Netlists.{item_at, with_used}

take_get : {A : Type 0} (xs : List A) (j i : ℕ) → i < j → slice_get (take j xs) i ≡ slice_get xs i
take_get xs zero i h = absurd (omega arith)
take_get [] (suc j) i h = refl
take_get (x ∷ xs) (suc j) zero h = refl
take_get (x ∷ xs) (suc j) (suc i) h = take_get xs j i (omega arith)

same_spot : (p : Spot) → spot_eq p p ≡ true
same_spot p = ap (λ b. b && nat_eq p.bel p.bel) (eq-eqb p.site p.site refl) ∙ eq-eqb p.bel p.bel refl

-- a place before this one is taken
taken_before : (places : List Spot) (i j : ℕ) (p : Spot) → i < j → slice_get places i ≡ Some p → is_taken (take j places) p ≡ true
taken_before places i j p lt at = any_passes_from_place (λ q. spot_eq p q) (take j places) i p (take_get places j i lt ∙ at) (same_spot p)

not_twice : (rec : DeviceRec) (cells : List FlatCell) (places : List Spot) → FitFirst rec cells places → length places ≡ length cells → (i j : ℕ) (p : Spot) → i < j → slice_get places i ≡ Some p → slice_get places j ≡ Some p → ⊥
not_twice rec cells places fit count i j p lt at_i at_j =
    let within = slice_get_within places j p at_j in
    let c = item_at cells j (omega arith) in
    true≢false (sym (taken_before places i j p lt at_i) ∙ (fit.each j c.0 p c.1 at_j).free)

apart : (rec : DeviceRec) (cells : List FlatCell) (places : List Spot) → FitFirst rec cells places → length places ≡ length cells → Differ places
apart rec cells places fit count i j p at_i at_j = by (cases_lt i j) (cases_lt j i)
  where
    by : (i < j) ⊎ (j ≤ i) → (j < i) ⊎ (i ≤ j) → i ≡ j
    by (inl lt) _ = absurd (not_twice rec cells places fit count i j p lt at_i at_j)
    by (inr le) (inl lt) = absurd (not_twice rec cells places fit count j i p lt at_j at_i)
    by (inr le) (inr ge) = omega arith

-- a used site stays used
stays_used : (sites : List ℕ) (ps : List Spot) (s : ℕ) → list_any (λ t. nat_eq s t) sites ≡ true → list_any (λ t. nat_eq s t) (used_after sites ps) ≡ true
unfolding used_after
stays_used sites [] s h = h
stays_used sites (p ∷ ps) s h = stays_used (with_site sites p.site) ps s (with_used sites p.site s ∙ ap (λ b. b || nat_eq p.site s) h)

all_used : (sites : List ℕ) (ps : List Spot) (k : ℕ) (p : Spot) → slice_get ps k ≡ Some p → list_any (λ t. nat_eq p.site t) (used_after sites ps) ≡ true
unfolding used_after
all_used sites [] k p at = absurd (none-some p at)
all_used sites (q ∷ qs) zero p at =
    stays_used (with_site sites q.site) qs p.site (with_used sites q.site p.site ∙ ap (λ b. list_any (λ t. nat_eq p.site t) sites || b) (eq-eqb q.site p.site (ap (λ x. x.site) (same_Some q p at))) ∙ or_true (list_any (λ t. nat_eq p.site t) sites))
  where
    or_true : (b : Bool) → (b || true) ≡ true
    or_true true = refl
    or_true false = refl
all_used sites (q ∷ qs) (suc k) p at = all_used (with_site sites q.site) qs k p at

-- an item of a list with one more
push_cases : (xs : List ℕ) (y k x : ℕ) → slice_get (xs ++ y ∷ []) k ≡ Some x → ((k < length xs) × (slice_get xs k ≡ Some x)) ⊎ ((k ≡ length xs) × (y ≡ x))
push_cases xs y k x at = by (nat_eq k (length xs)) refl
  where
    by : (b : Bool) → nat_eq k (length xs) ≡ b → ((k < length xs) × (slice_get xs k ≡ Some x)) ⊎ ((k ≡ length xs) × (y ≡ x))
    by true e = let last : k ≡ length xs = eqb-true k (length xs) e in inr (last, same_Some y x (sym (slice_get_push xs y) ∙ ap (slice_get (xs ++ y ∷ [])) (sym last) ∙ at))
    by false e =
        let ne : k ≢ length xs = eqb-false k (length xs) e in
        let within = slice_get_within (xs ++ y ∷ []) k x at in
        let len = length-append xs (y ∷ []) in
        let lt : k < length xs = omega arith in inl (lt, sym (slice_get_before xs y k lt) ∙ at)

differ_with : (sites : List ℕ) (s : ℕ) → Differ sites → Differ (with_site sites s)
differ_with sites s differ = by (list_any (λ t. nat_eq s t) sites) refl
  where
    fresh : list_any (λ t. nat_eq s t) sites ≡ false → (k : ℕ) → slice_get sites k ≡ Some s → ⊥
    fresh h k at = true≢false (sym (any_passes_from_place (λ t. nat_eq s t) sites k s at (eq-eqb s s refl)) ∙ h)

    pushed : list_any (λ t. nat_eq s t) sites ≡ false → (i j x : ℕ) → ((i < length sites) × (slice_get sites i ≡ Some x)) ⊎ ((i ≡ length sites) × (s ≡ x)) → ((j < length sites) × (slice_get sites j ≡ Some x)) ⊎ ((j ≡ length sites) × (s ≡ x))
        → i ≡ j
    pushed h i j x (inl a) (inl b) = differ i j x a.1 b.1
    pushed h i j x (inl a) (inr b) = absurd (fresh h i (a.1 ∙ ap (λ y. Some y) (sym b.1)))
    pushed h i j x (inr a) (inl b) = absurd (fresh h j (b.1 ∙ ap (λ y. Some y) (sym a.1)))
    pushed h i j x (inr a) (inr b) = a.0 ∙ sym b.0

    by : (b : Bool) → list_any (λ t. nat_eq s t) sites ≡ b → Differ (cond b sites (sites ++ s ∷ []))
    by true h = differ
    by false h = λ i j x at_i at_j. pushed h i j x (push_cases sites s i x at_i) (push_cases sites s j x at_j)

differ_after : (sites : List ℕ) (ps : List Spot) → Differ sites → Differ (used_after sites ps)
unfolding used_after
differ_after sites [] differ = differ
differ_after sites (p ∷ ps) differ = differ_after (with_site sites p.site) ps (differ_with sites p.site differ)

pub own_places : FitsHaveOwnPlaces
own_places rec cells phys is = record {
  places = is.places;
  placements_count = is.netlist.placements.count ∙ is.count;
  places_count = is.count;
  each = λ k c p m at_c at_p at_m. let placed = is.netlist.placements.each k c p m at_c at_p at_m in record {
    cell_name = placed.cell_name;
    ty = placed.ty;
    site = placed.site;
    bel = placed.bel;
    pins = placed.pins;
    admitted = (is.fit.each k c p at_c at_p).admitted;
  };
  apart = apart rec cells is.places is.fit is.count;
  all_used = λ k p at. all_used [] is.places k p at;
  sites_differ = differ_after [] is.places (λ i j x at_i at_j. absurd (none-some x at_i));
  instances = is.netlist.site_insts;
}
