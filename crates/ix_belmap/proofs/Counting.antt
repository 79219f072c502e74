-- Counts of cells and of BELs, one by one.
use Rattle.std.proofs.Common.{◌≡◌, ◌≢◌, refl, ap, sym, subst, ◌∙◌, IsSome, is_none, ℕ, suc, ◌+◌}
use Rattle.std.proofs.Common.{◌<◌, ◌≤◌, List, take, length, slice_get, Option, Some, None}
use Rattle.std.proofs.Common.{unwrap_or, Bool, true, false, cond, nat_eq, arith}
use Rattle.std.proofs.lemmas.Option.{same_Some, slice_get_within, get_or_from_slice_get}
use Rattle.std.proofs.lemmas.Bool.{eqb-true, eqb-false, true≢false, false≢true}
use Rattle.std.proofs.lemmas.List.Sums.{sum_by_more, count_by-le-length}
use Rattle.ix_first.specs.First.{or_later}
use Rattle.ix_rec.specs.declared.device.DeviceRec.{DeviceRec}
use Rattle.ix_rec.specs.declared.flow.FlatCell.{FlatCell}
use Rattle.std.proofs.lemmas.List.{length-take-le}
use Rattle.ix_belmap.specs.Counts.{cells_of_type, AreEnough}
use Rattle.ix_belmap.specs.Sites.{count_below}

pub count_next : (p : ℕ → Bool) (n : ℕ) → count_below p (n + 1) ≡ count_below p n + cond (p n) 1 0
unfolding count_below
count_next p n = let e : n + 1 ≡ suc n = omega arith in rw e refl

pub count_start : (p : ℕ → Bool) → count_below p 0 ≡ 0
unfolding count_below
count_start p = refl

-- one more cell
pub cells_next : (ty : ℕ) (cells : List FlatCell) (i : ℕ) (c : FlatCell)
    → slice_get cells i ≡ Some c → cells_of_type ty (take (i + 1) cells) ≡ cells_of_type ty
    (take i cells) + cond (nat_eq c.ty ty) 1 0
unfolding cells_of_type
cells_next ty cells i c h =
    sum_by_more (λ x. cond (nat_eq x.ty ty) 1 0) cells i c (slice_get_within cells i c h)
    ∙ ap (λ x. cells_of_type ty (take i cells) + cond (nat_eq x.ty ty) 1 0)
    (get_or_from_slice_get cells i c c h)

pub cells_start : (ty : ℕ) (cells : List FlatCell) → cells_of_type ty (take 0 cells) ≡ 0
unfolding cells_of_type
cells_start ty cells = refl

pub cells_few : (ty : ℕ) (cells : List FlatCell) (i : ℕ) → i < length cells
    → cells_of_type ty (take i cells) ≤ i
unfolding cells_of_type
cells_few ty cells i h = let le = count_by-le-length (λ c. nat_eq c.ty ty) (take i cells) in
    let len = length-take-le i cells (let g : i ≤ length cells = omega arith in g) in omega arith

-- what was counted, with one number more
pub counted_yes : (p : ℕ → Bool) (n k m : ℕ) → n ≡ count_below p k → p k ≡ true → m ≡ n + 1
    → m ≡ count_below p (k + 1)
counted_yes p n k m e passes is = is ∙ ap (λ x. x + 1) e
    ∙ ap (λ b. count_below p k + cond b 1 0) (sym passes) ∙ sym (count_next p k)

pub counted_no : (p : ℕ → Bool) (n k m : ℕ) → n ≡ count_below p k → p k ≡ false → m ≡ n
    → m ≡ count_below p (k + 1)
counted_no p n k m e fails is = is ∙ e ∙ none (count_below p k)
    ∙ ap (λ b. count_below p k + cond b 1 0) (sym fails) ∙ sym (count_next p k)
  where
    none : (x : ℕ) → x ≡ x + 0
    none x = omega arith

-- the cells of each type, with one cell more
pub cells_step : (cells : List FlatCell) (i : ℕ) (c : FlatCell) (old new : ℕ → Option ℕ) (m : ℕ)
    → slice_get cells i ≡ Some c → ((ty : ℕ)
    → unwrap_or (old ty) 0 ≡ cells_of_type ty (take i cells))
    → m ≡ unwrap_or (old c.ty) 0 → ((q : ℕ) → new q ≡ cond (nat_eq c.ty q) (Some (m + 1)) (old q))
    → (ty : ℕ) → unwrap_or (new ty) 0 ≡ cells_of_type ty (take (i + 1) cells)
cells_step cells i c old new m at before is step ty =
    ap (λ o. unwrap_or o 0) (step ty) ∙ by (nat_eq c.ty ty) refl ∙ sym (cells_next ty cells i c at)
  where
    none : (x : ℕ) → x ≡ x + 0
    none x = omega arith

    by : (b : Bool) → nat_eq c.ty ty ≡ b → unwrap_or
        (cond b (Some (m + 1)) (old ty)) 0 ≡ cells_of_type ty (take i cells) + cond
        (nat_eq c.ty ty) 1 0
    by true h = ap (λ x. x + 1) (is ∙ before c.ty
        ∙ ap (λ x. cells_of_type x (take i cells)) (eqb-true c.ty ty h))
        ∙ ap (λ b. cells_of_type ty (take i cells) + cond b 1 0) (sym h)
    by false h = before ty ∙ none (cells_of_type ty (take i cells))
        ∙ ap (λ b. cells_of_type ty (take i cells) + cond b 1 0) (sym h)

-- the types that were seen have enough BELs, with one cell more
pub record Seen (rec : DeviceRec) (cells : List FlatCell) (i : ℕ) (table : ℕ
    → Option (Unit {0})) : Type 0 where
  pub seen : (q : ℕ) → IsSome (table q) → AreEnough rec cells q
  pub earlier : (j : ℕ) (c : FlatCell) → j < i → slice_get cells j ≡ Some c
      → AreEnough rec cells c.ty

pub seen_step : (rec : DeviceRec) (cells : List FlatCell) (i : ℕ) (c : FlatCell) (old new : ℕ
    → Option (Unit {0})) → slice_get cells i ≡ Some c → Seen rec cells i old
    → AreEnough rec cells c.ty
    → ((q : ℕ) → new q ≡ or_later (old q) (nat_eq c.ty q) (tt {0})) → Seen rec cells (i + 1) new
seen_step rec cells i c old new at before here step = record {
  seen = λ q h. by q (old q) refl (subst IsSome (step q) h);
  earlier = λ j d lt e. earlier j d (nat_eq j i) refl lt e;
}
  where
    by : (q : ℕ) (o : Option (Unit {0})) → old q ≡ o → IsSome (or_later o (nat_eq c.ty q) (tt {0}))
        → AreEnough rec cells q
    by q (Some u) e h = before.seen q (subst IsSome (sym e) refl)
    by q None e h = same (nat_eq c.ty q) refl h
      where
        same : (b : Bool) → nat_eq c.ty q ≡ b → IsSome (or_later None b (tt {0}))
            → AreEnough rec cells q
        same true g h = subst (λ x. AreEnough rec cells x) (eqb-true c.ty q g) here
        same false g h = absurd (false≢true h)

    earlier : (j : ℕ) (d : FlatCell) (b : Bool) → nat_eq j i ≡ b → j < i + 1
        → slice_get cells j ≡ Some d → AreEnough rec cells d.ty
    earlier j d true g lt e = subst (λ x. AreEnough rec cells x.ty)
        (same_Some c d (sym at ∙ ap (λ k. slice_get cells k) (sym (eqb-true j i g)) ∙ e)) here
    earlier j d false g lt e = before.earlier j d (let ne : j ≢ i = eqb-false j i g in
        omega arith) e

pub not_none : {A : Type 0} (o : Option A) → is_none o ≡ false → IsSome o
not_none None h = absurd (true≢false h)
not_none (Some x) h = refl
