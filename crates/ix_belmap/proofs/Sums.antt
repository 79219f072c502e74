-- Sums over the sites of a device, by site type.
use Rattle.std.proofs.Common.{◌≡◌, ◌≢◌, refl, ap, sym, ◌∙◌, ℕ, zero, suc, ◌+◌, ◌*◌, ◌<◌, ◌≤◌, []}
use Rattle.std.proofs.Common.{◌∷◌, ◌++◌, Bool, true, false, cond, nat_eq, nat_lt, Option, Some}
use Rattle.std.proofs.Common.{None, option_map, unwrap_or, arith}
use Rattle.std.proofs.lemmas.Bool.{eqb-true, eqb-false, ltb-true, ltb-false, lt-ltb, le-ltb}
use Rattle.std.specs.List.{count_by, range_with_len, sum_by}
use Rattle.std.proofs.lemmas.List.Sums.{sum_by-append, sum_by-cons}
use Rattle.ix_belmap.specs.Sites.{count_below, sum_below}
use Rattle.ix_belmap.proofs.Rows.{range_next}

-- sums and counts of the numbers below one are those of their list
pub is_sum : (f : ℕ → ℕ) (n : ℕ) → sum_below f n ≡ sum_by f (range_with_len 0 n)
unfolding sum_below
is_sum f zero = refl
is_sum f (suc n) =
    let below = is_sum f n in
    let cut : sum_by f (range_with_len 0 (suc n)) ≡ sum_by f (range_with_len 0 n ++ n ∷ [])
    = ap (sum_by f) (range_next 0 n n (omega arith)) in
    let joined = sum_by-append f (range_with_len 0 n) (n ∷ []) in
    let one = sum_by-cons f n [] in
    let none : sum_by f [] ≡ 0 = refl in
    omega arith

pub is_count : (test : ℕ → Bool) (n : ℕ) → count_below test n ≡ count_by test (range_with_len 0 n)
unfolding count_below
is_count test zero = refl
is_count test (suc n) =
    let below = is_count test n in
    let cut : count_by test (range_with_len 0 (suc n)) ≡ count_by test
    (range_with_len 0 n ++ n ∷ [])
    = ap (count_by test) (range_next 0 n n (omega arith)) in
    let joined = sum_by-append (λ k. cond (test k) 1 0) (range_with_len 0 n) (n ∷ []) in
    let one = sum_by-cons (λ k. cond (test k) 1 0) n [] in
    let none : count_by test [] ≡ 0 = refl in
    omega arith

-- what the first so many types give
abbrev pub of_first : (f : ℕ → ℕ) → (count : ℕ) → Option ℕ → ℕ
of_first f count None = 0
of_first f count (Some t) = cond (nat_lt t count) (f t) 0

abbrev pub is_type : ℕ → Option ℕ → Bool
is_type t o = unwrap_or (option_map (nat_eq t) o) false

sum_same : (f g : ℕ → ℕ) (n : ℕ) → ((k : ℕ) → k < n → f k ≡ g k) → sum_below f n ≡ sum_below g n
unfolding sum_below
sum_same f g zero h = refl
sum_same f g (suc n) h = let a = sum_same f g n (λ k lt. h k (omega arith)) in let b =
    h n (omega arith) in cc

one_type : (f : ℕ → ℕ) (k : ℕ) (o : Option ℕ)
    → of_first f (k + 1) o ≡ of_first f k o + f k * cond (is_type k o) 1 0
one_type f k None = omega arith
one_type f k (Some t) = by (nat_eq k t) refl
  where
    by : (b : Bool) → nat_eq k t ≡ b → cond (nat_lt t (k + 1)) (f t) 0 ≡ cond (nat_lt t k)
        (f t) 0 + f k * cond (nat_eq k t) 1 0
    by true h =
        let e : k ≡ t = eqb-true k t h in
        let a : nat_lt t (k + 1) ≡ true = lt-ltb t (k + 1) (omega arith) in
        let b : nat_lt t k ≡ false = le-ltb t k (omega arith) in
        let c : f k ≡ f t = ap f e in
        ap (λ b. cond b (f t) 0) a ∙ mid c
        ∙ sym (ap (λ b. cond b (f t) 0 + f k * cond (nat_eq k t) 1 0) b
        ∙ ap (λ b. 0 + f k * cond b 1 0) h)
      where
        mid : f k ≡ f t → f t ≡ 0 + f k * 1
        mid c = omega arith
    by false h = apart (nat_lt t k) refl ∙ ap (λ b. cond (nat_lt t k) (f t) 0 + f k * cond b 1 0)
        (sym h)
      where
        none : (x y : ℕ) → x ≡ x + y * 0
        none x y = omega arith

        apart : (b : Bool) → nat_lt t k ≡ b
            → cond (nat_lt t (k + 1)) (f t) 0 ≡ cond (nat_lt t k) (f t) 0 + f k * 0
        apart true g = let lt : t < k = ltb-true t k g in
            ap (λ b. cond b (f t) 0) (lt-ltb t (k + 1) (omega arith) ∙ sym g)
            ∙ none (cond (nat_lt t k) (f t) 0) (f k)
        apart false g =
            let ne : k ≢ t = eqb-false k t h in let le : k ≤ t = ltb-false t k g in
            ap (λ b. cond b (f t) 0) (le-ltb t (k + 1) (omega arith) ∙ sym g)
            ∙ none (cond (nat_lt t k) (f t) 0) (f k)

add_all : (a b c d : ℕ) (x y : ℕ) → (a + x * b) + (c + x * d) ≡ (a + c) + x * (b + d)
add_all a b c d x y = omega arith

-- one site type more
pub one_more_type : (f : ℕ → ℕ) (type_of : ℕ → Option ℕ) (k n : ℕ)
    → sum_below (λ s. of_first f (k + 1) (type_of s)) n ≡ sum_below
    (λ s. of_first f k (type_of s)) n + f k * count_below (λ s. is_type k (type_of s)) n
unfolding sum_below count_below
one_more_type f type_of k zero = omega arith
one_more_type f type_of k (suc n) =
    let below = one_more_type f type_of k n in let here = one_type f k (type_of n) in
    let a : ℕ = sum_below (λ s. of_first f (k + 1) (type_of s)) n in
    ap (λ x. x + of_first f (k + 1) (type_of n)) below
    ∙ ap (λ x. (sum_below (λ s. of_first f k (type_of s)) n + f k * count_below
    (λ s. is_type k (type_of s)) n) + x) here
    ∙ add_all (sum_below (λ s. of_first f k (type_of s)) n)
    (count_below (λ s. is_type k (type_of s)) n) (of_first f k (type_of n))
    (cond (is_type k (type_of n)) 1 0) (f k) 0

-- none is counted before the first
pub no_type : (f : ℕ → ℕ) (type_of : ℕ → Option ℕ) (n : ℕ)
    → sum_below (λ s. of_first f 0 (type_of s)) n ≡ 0
unfolding sum_below
no_type f type_of zero = refl
no_type f type_of (suc n) = ap (λ x. x + of_first f 0 (type_of n)) (no_type f type_of n)
    ∙ by (type_of n)
  where
    by : (o : Option ℕ) → 0 + of_first f 0 o ≡ 0
    by None = refl
    by (Some t) = ap (λ b. 0 + cond b (f t) 0) (le-ltb t 0 (omega arith))

-- where all types are among the first so many
pub all_types : (f : ℕ → ℕ) (type_of : ℕ → Option ℕ) (k n : ℕ)
    → ((s t : ℕ) → s < n → type_of s ≡ Some t → t < k)
    → sum_below (λ s. of_first f k (type_of s)) n ≡ sum_below
    (λ s. unwrap_or (option_map f (type_of s)) 0) n
all_types f type_of k n within = sum_same (λ s. of_first f k (type_of s))
    (λ s. unwrap_or (option_map f (type_of s)) 0) n (λ s lt. by s lt (type_of s) refl)
  where
    by : (s : ℕ) → s < n → (o : Option ℕ) → type_of s ≡ o
        → of_first f k o ≡ unwrap_or (option_map f o) 0
    by s lt None e = refl
    by s lt (Some t) e = let h : t < k = within s t lt e in ap (λ b. cond b (f t) 0) (lt-ltb t k h)

-- no more than the most at each
pub sum_most : (f : ℕ → ℕ) (most n : ℕ) → ((s : ℕ) → f s ≤ most) → sum_below f n ≤ n * most
unfolding sum_below
sum_most f most zero h = omega arith
sum_most f most (suc n) h = let a = sum_most f most n h in let b = h n in omega arith

pub first_most : (f : ℕ → ℕ) (most k : ℕ) (o : Option ℕ) → ((t : ℕ) → t < k → f t ≤ most)
    → of_first f k o ≤ most
first_most f most k None h = omega arith
first_most f most k (Some t) h = by (nat_lt t k) refl
  where
    by : (b : Bool) → nat_lt t k ≡ b → cond b (f t) 0 ≤ most
    by true e = h t (ltb-true t k e)
    by false e = omega arith
