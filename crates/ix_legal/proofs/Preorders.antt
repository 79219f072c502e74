-- Preorder lists: what is at depth 1 or more has a parent.
use Rattle.std.proofs.Common.{◌≡◌, ◌⊎◌, ◌<◌, ◌≤◌, ◌+◌, ◌∙◌, ap, refl, sym, subst, ℕ, zero, suc}
use Rattle.std.proofs.Common.{List, [], ◌∷◌, arith, inl, inr}
use Rattle.std.specs.Prelude.{slice_get, Some}
use Rattle.std.specs.List.{AllByRecursion}
use Rattle.std.proofs.lemmas.Bool.{cases_lt}
use Rattle.std.proofs.lemmas.Option.{none-some, same_Some}
use Rattle.ix_rec.specs.Forest.{StepsWithin}

-- what holds of all of a list holds of what stands at a place
pub all_at : {A : Type 0} (P : A → Type 0) (xs : List A) (k : ℕ) (x : A) → AllByRecursion P xs
    → slice_get xs k ≡ Some x → P x
all_at P [] k x all is = absurd (none-some x is)
all_at P (y ∷ ys) zero x all is = subst P (same_Some y x is) all.0
all_at P (y ∷ ys) (suc k) x all is = all_at P ys k x all.1 is

-- the first depth is within the limit
pub first_within : (limit : ℕ) (ds : List ℕ) (d : ℕ) → StepsWithin limit ds
    → slice_get ds 0 ≡ Some d → d ≤ limit
first_within limit [] d steps is = absurd (none-some d is)
first_within limit (x ∷ xs) d steps is = subst (λ e. e ≤ limit) (same_Some x d is) steps.0

-- a depth that isn't the first comes at most one step below the one before
pub record ComesAfter (ds : List ℕ) (k d : ℕ) : Type 0 where
  pub above : ℕ
  pub above_is : slice_get ds k ≡ Some above
  pub within : d ≤ above + 1

pub comes_after : (limit : ℕ) (ds : List ℕ) (k d : ℕ) → StepsWithin limit ds
    → slice_get ds (suc k) ≡ Some d → ComesAfter ds k d
comes_after limit [] k d steps is = absurd (none-some d is)
comes_after limit (x ∷ xs) zero d steps is =
    record { above = x; above_is = refl; within = first_within (x + 1) xs d steps.1 is }
comes_after limit (x ∷ xs) (suc k) d steps is = let h = comes_after (x + 1) xs k d steps.1 is in
    record { above = h.above; above_is = h.above_is; within = h.within }

-- the last before a place at this depth, where all between are deeper
pub record IsAbove (ds : List ℕ) (parent k d : ℕ) : Type 0 where
  pub is : slice_get ds parent ≡ Some d
  pub before : parent < k
  pub last : (between other : ℕ) → parent < between → between < k
      → slice_get ds between ≡ Some other → d < other

-- each place has one at each depth above its own
pub above : (ds : List ℕ) (k e d : ℕ) → StepsWithin 0 ds → slice_get ds k ≡ Some e → d < e
    → (parent : ℕ) × IsAbove ds parent k d
above ds zero e d steps is lt = let within : e ≤ 0 = first_within 0 ds e steps is in
    absurd (omega (arith, within, lt))
above ds (suc k) e d steps is lt = by (cases_lt d after.above) (above ds k after.above d steps after.above_is)
  where
    after : ComesAfter ds k e
    after = comes_after 0 ds k e steps is

    by : (d < after.above) ⊎ (after.above ≤ d)
        → (d < after.above → (parent : ℕ) × IsAbove ds parent k d)
        → (parent : ℕ) × IsAbove ds parent (suc k) d
    by (inl deeper) earlier = let h = earlier deeper in (
      h.0,
      record {
        is = h.1.is;
        before = let b : h.0 < k = h.1.before in omega (arith, b);
        last = λ between other from to at. last_of h.0 h.1 between other from (cases_lt between k) to at;
      },
    )
      where
        last_of : (parent : ℕ) → IsAbove ds parent k d → (between other : ℕ) → parent < between
            → (between < k) ⊎ (k ≤ between) → between < suc k → slice_get ds between ≡ Some other
            → d < other
        last_of parent h between other from (inl to) t at = h.last between other from to at
        last_of parent h between other from (inr ge) t at =
            let same : between ≡ k = omega (arith, ge, t) in
            let o : after.above ≡ other = same_Some after.above other
            (sym after.above_is ∙ (ap (slice_get ds) (sym same) ∙ at)) in
            omega (arith, deeper, o)
    by (inr up) earlier = (
      k,
      record {
        is = after.above_is ∙ ap Some (let w : e ≤ after.above + 1 = after.within in omega (arith, w, up, lt));
        before = omega arith;
        last = λ between other from to at. absurd (omega (arith, from, to));
      },
    )
