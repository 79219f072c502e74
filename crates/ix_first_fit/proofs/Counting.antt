-- Counts of cells and of BELs, one by one.
use Rattle.std.proofs.Common.{◌≡◌, ◌≢◌, refl, ap, sym, subst, ◌∙◌, IfSome, IsSome, is_none, ℕ, zero, suc, ◌+◌, ◌<◌, ◌≤◌, List, [], ◌∷◌, take, length, slice_get, Option, Some, None, is_some, unwrap_or, option_map, option_and_then, Bool, true, false, cond, nat_eq, arith}
use Rattle.std.proofs.lemmas.Option.{same_Some, none-some, slice_get_within, get_or_from_slice_get}
use Rattle.std.proofs.lemmas.Bool.{eqb-true, eqb-false, true≢false, false≢true}
use Rattle.ix_first.specs.First.{or_later}
use Rattle.ix_first_fit.specs.Fit.{Suffices}
use Rattle.std.proofs.lemmas.List.Sums.{sum_by_more, count_by-le-length}
use Rattle.ix_rec.specs.declared.device.DeviceRec.{DeviceRec}
use Rattle.ix_rec.specs.declared.device.SiteType.{SiteType}
use Rattle.ix_rec.specs.declared.flow.FlatCell.{FlatCell}
use Rattle.ix_device.specs.Lookups.{in_type, type_of_site}
use Rattle.ix_device.specs.Admission.{pins_in}
use Rattle.ix_first_fit.specs.Spots.{type_at, pins_at, admits, spot, count_below, sum_below, bels_of_site, takers_at, cells_of}
use Rattle.ix_first_fit.proofs.Walks.{length_take}

-- a BEL of a site type admits a cell type
abbrev pub takes_in : DeviceRec → (ty t bel : ℕ) → Bool
takes_in rec ty t bel = is_some (in_type (pins_in rec ty bel) rec t)

-- the same of a site of the type
pub admits_in : (rec : DeviceRec) (ty site t bel : ℕ) → type_of_site rec site ≡ Some t → takes_in rec ty t bel ≡ admits rec ty (spot site bel)
unfolding admits pins_at type_at
admits_in rec ty site t bel h = sym (ap (λ o. is_some (option_and_then (λ u. pins_in rec ty bel u) (option_and_then (λ n. slice_get rec.site_type_list n) o))) h)

pub count_same : (p q : ℕ → Bool) (n : ℕ) → ((k : ℕ) → p k ≡ q k) → count_below p n ≡ count_below q n
unfolding count_below
count_same p q zero h = refl
count_same p q (suc n) h = ap (λ c. c + cond (p n) 1 0) (count_same p q n h) ∙ ap (λ b. count_below q n + cond b 1 0) (h n)

pub count_next : (p : ℕ → Bool) (n : ℕ) → count_below p (n + 1) ≡ count_below p n + cond (p n) 1 0
unfolding count_below
count_next p n = let e : n + 1 ≡ suc n = omega arith in rw e refl

pub count_start : (p : ℕ → Bool) → count_below p 0 ≡ 0
unfolding count_below
count_start p = refl

pub sum_next : (f : ℕ → ℕ) (n : ℕ) → sum_below f (n + 1) ≡ sum_below f n + f n
unfolding sum_below
sum_next f n = let e : n + 1 ≡ suc n = omega arith in rw e refl

pub sum_start : (f : ℕ → ℕ) → sum_below f 0 ≡ 0
unfolding sum_below
sum_start f = refl

-- how many BELs a site of a type has
pub bels_at : (rec : DeviceRec) (site t : ℕ) (ty : SiteType) → type_of_site rec site ≡ Some t → slice_get rec.site_type_list t ≡ Some ty → bels_of_site rec site ≡ length ty.bels
unfolding type_at
bels_at rec site t ty h e = ap (λ o. unwrap_or (option_map (λ u. length u.bels) (option_and_then (λ n. slice_get rec.site_type_list n) o)) 0) h ∙ ap (λ o. unwrap_or (option_map (λ u. length u.bels) o) 0) e

-- all BELs of the sites of a type were counted
pub all_takers : (rec : DeviceRec) (ty t n : ℕ) (u : SiteType) → slice_get rec.site_type_list t ≡ Some u → n ≡ length u.bels → (site : ℕ) → type_of_site rec site ≡ Some t
    → count_below (λ b. takes_in rec ty t b) n ≡ takers_at rec ty site
unfolding takers_at
all_takers rec ty t n u e same site h =
    count_same (λ b. takes_in rec ty t b) (λ b. admits rec ty (spot site b)) n (λ b. admits_in rec ty site t b h) ∙ ap (λ m. count_below (λ b. admits rec ty (spot site b)) m) (same ∙ sym (bels_at rec site t u h e))

-- one more cell
pub cells_next : (ty : ℕ) (cells : List FlatCell) (i : ℕ) (c : FlatCell) → slice_get cells i ≡ Some c → cells_of ty (take (i + 1) cells) ≡ cells_of ty (take i cells) + cond (nat_eq c.ty ty) 1 0
unfolding cells_of
cells_next ty cells i c h =
    sum_by_more (λ x. cond (nat_eq x.ty ty) 1 0) cells i c (slice_get_within cells i c h) ∙ ap (λ x. cells_of ty (take i cells) + cond (nat_eq x.ty ty) 1 0) (get_or_from_slice_get cells i c c h)

pub cells_start : (ty : ℕ) (cells : List FlatCell) → cells_of ty (take 0 cells) ≡ 0
unfolding cells_of
cells_start ty cells = refl

pub cells_few : (ty : ℕ) (cells : List FlatCell) (i : ℕ) → i < length cells → cells_of ty (take i cells) ≤ i
unfolding cells_of
cells_few ty cells i h = let le = count_by-le-length (λ c. nat_eq c.ty ty) (take i cells) in let len = length_take cells i h in omega arith

-- what was counted, with one number more
pub counted_yes : (p : ℕ → Bool) (n k m : ℕ) → n ≡ count_below p k → p k ≡ true → m ≡ n + 1 → m ≡ count_below p (k + 1)
counted_yes p n k m e passes is = is ∙ ap (λ x. x + 1) e ∙ ap (λ b. count_below p k + cond b 1 0) (sym passes) ∙ sym (count_next p k)

pub counted_no : (p : ℕ → Bool) (n k m : ℕ) → n ≡ count_below p k → p k ≡ false → m ≡ n → m ≡ count_below p (k + 1)
counted_no p n k m e fails is = is ∙ e ∙ none (count_below p k) ∙ ap (λ b. count_below p k + cond b 1 0) (sym fails) ∙ sym (count_next p k)
  where
    none : (x : ℕ) → x ≡ x + 0
    none x = omega arith

-- a place within a list has an item
pub within : {A : Type 0} (xs : List A) (k : ℕ) → k < length xs → slice_get xs k ≡ None → ⊥
within [] k h e = omega arith
within (x ∷ xs) zero h e = none-some x (sym e)
within (x ∷ xs) (suc k) h e = within xs k (omega arith) e

-- the BELs of a site type, as many as were told, were counted
pub told_takers : (rec : DeviceRec) (ty t n : ℕ) → t < length rec.site_type_list → IfSome (slice_get rec.site_type_list t) (λ u. n ≡ length u.bels) → (site : ℕ) → type_of_site rec site ≡ Some t
    → count_below (λ b. takes_in rec ty t b) n ≡ takers_at rec ty site
told_takers rec ty t n here told site h = by (slice_get rec.site_type_list t) refl told
  where
    by : (o : Option SiteType) → slice_get rec.site_type_list t ≡ o → IfSome o (λ u. n ≡ length u.bels) → count_below (λ b. takes_in rec ty t b) n ≡ takers_at rec ty site
    by None e same = absurd (within rec.site_type_list t here e)
    by (Some u) e same = all_takers rec ty t n u e same site h

-- the cells of each type, with one cell more
pub cells_step : (cells : List FlatCell) (i : ℕ) (c : FlatCell) (old new : ℕ → Option ℕ) (m : ℕ) → slice_get cells i ≡ Some c → ((ty : ℕ) → unwrap_or (old ty) 0 ≡ cells_of ty (take i cells))
    → m ≡ unwrap_or (old c.ty) 0 → ((q : ℕ) → new q ≡ cond (nat_eq c.ty q) (Some (m + 1)) (old q)) → (ty : ℕ) → unwrap_or (new ty) 0 ≡ cells_of ty (take (i + 1) cells)
cells_step cells i c old new m at before is step ty = ap (λ o. unwrap_or o 0) (step ty) ∙ by (nat_eq c.ty ty) refl ∙ sym (cells_next ty cells i c at)
  where
    none : (x : ℕ) → x ≡ x + 0
    none x = omega arith

    by : (b : Bool) → nat_eq c.ty ty ≡ b → unwrap_or (cond b (Some (m + 1)) (old ty)) 0 ≡ cells_of ty (take i cells) + cond (nat_eq c.ty ty) 1 0
    by true h = ap (λ x. x + 1) (is ∙ before c.ty ∙ ap (λ x. cells_of x (take i cells)) (eqb-true c.ty ty h)) ∙ ap (λ b. cells_of ty (take i cells) + cond b 1 0) (sym h)
    by false h = before ty ∙ none (cells_of ty (take i cells)) ∙ ap (λ b. cells_of ty (take i cells) + cond b 1 0) (sym h)

-- the types that were seen have enough BELs, with one cell more
pub record Seen (rec : DeviceRec) (cells : List FlatCell) (i : ℕ) (table : ℕ → Option (Unit {0})) : Type 0 where
  pub seen : (q : ℕ) → IsSome (table q) → Suffices rec cells q
  pub earlier : (j : ℕ) (c : FlatCell) → j < i → slice_get cells j ≡ Some c → Suffices rec cells c.ty

pub seen_step : (rec : DeviceRec) (cells : List FlatCell) (i : ℕ) (c : FlatCell) (old new : ℕ → Option (Unit {0})) → slice_get cells i ≡ Some c → Seen rec cells i old → Suffices rec cells c.ty
    → ((q : ℕ) → new q ≡ or_later (old q) (nat_eq c.ty q) (tt {0})) → Seen rec cells (i + 1) new
seen_step rec cells i c old new at before here step = record {
  seen = λ q h. by q (old q) refl (subst IsSome (step q) h);
  earlier = λ j d lt e. earlier j d (nat_eq j i) refl lt e;
}
  where
    by : (q : ℕ) (o : Option (Unit {0})) → old q ≡ o → IsSome (or_later o (nat_eq c.ty q) (tt {0})) → Suffices rec cells q
    by q (Some u) e h = before.seen q (subst IsSome (sym e) refl)
    by q None e h = same (nat_eq c.ty q) refl h
      where
        same : (b : Bool) → nat_eq c.ty q ≡ b → IsSome (or_later None b (tt {0})) → Suffices rec cells q
        same true g h = subst (λ x. Suffices rec cells x) (eqb-true c.ty q g) here
        same false g h = absurd (false≢true h)

    earlier : (j : ℕ) (d : FlatCell) (b : Bool) → nat_eq j i ≡ b → j < i + 1 → slice_get cells j ≡ Some d → Suffices rec cells d.ty
    earlier j d true g lt e = subst (λ x. Suffices rec cells x.ty) (same_Some c d (sym at ∙ ap (λ k. slice_get cells k) (sym (eqb-true j i g)) ∙ e)) here
    earlier j d false g lt e = before.earlier j d (let ne : j ≢ i = eqb-false j i g in omega arith) e

-- the BELs of one more site
pub bels_step : (f : ℕ → ℕ) (n x k m : ℕ) → n ≡ sum_below f k → x ≡ f k → m ≡ n + x → m ≡ sum_below f (k + 1)
bels_step f n x k m e at is = is ∙ ap (λ y. y + x) e ∙ ap (λ y. sum_below f k + y) at ∙ sym (sum_next f k)

pub not_none : {A : Type 0} (o : Option A) → is_none o ≡ false → IsSome o
not_none None h = absurd (true≢false h)
not_none (Some x) h = refl
