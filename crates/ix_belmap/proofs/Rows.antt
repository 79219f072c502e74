-- Rows of cells: the numbers of a range that pass a test, one more at a time.
use Rattle.std.proofs.Common.{◌≡◌, ◌≢◌, refl, ap, sym, subst, ◌∙◌, ℕ, zero, suc, ◌+◌, ◌-◌, ◌<◌, ◌≤◌}
use Rattle.std.proofs.Common.{List, [], ◌∷◌, ◌++◌, length, slice_get, Bool, true, false, cond, ◌||◌}
use Rattle.std.proofs.Common.{nat_eq, Option, Some, None, option_map, unwrap_or, append-nil, arith}
use Rattle.std.proofs.lemmas.Bool.{eqb-true, eq-eqb}
use Rattle.std.proofs.lemmas.Option.{none-some, same_Some, slice_get_read}
use Rattle.std.proofs.lemmas.List.{length_push, get_or_push}
use Rattle.std.proofs.lemmas.List.Elements.{filter-append}
use Rattle.std.specs.List.{filter, range_with_len}

-- a range in three parts
split_range : (a k n m : ℕ) → m ≡ k + suc n
    → range_with_len a m ≡ range_with_len a k ++ (a + k) ∷ range_with_len (a + k + 1) n
split_range a zero n zero h = absurd (omega arith)
split_range a zero n (suc m) h = let e : a ≡ a + 0 = omega arith in let f : m ≡ n = omega arith in
    ap (λ x. x ∷ range_with_len (x + 1) m) e ∙ ap (λ x. (a + 0) ∷ range_with_len (a + 0 + 1) x) f
split_range a (suc k) n zero h = absurd (omega arith)
split_range a (suc k) n (suc m) h =
    ap (λ l. a ∷ l) (split_range (a + 1) k n m (omega arith))
    ∙ (let e : (a + 1) + k ≡ a + suc k = omega arith in
    ap (λ x. a ∷ (range_with_len (a + 1) k ++ x ∷ range_with_len (x + 1) n)) e)

-- a range with one number more
pub range_next : (a n next : ℕ) → a + n ≡ next
    → range_with_len a (suc n) ≡ range_with_len a n ++ next ∷ []
range_next a n next is =
    split_range a n 0 (suc n) (omega arith) ∙ ap (λ x. range_with_len a n ++ x ∷ []) is

-- a test that none of a range passes
pub filter_none : (t : ℕ → Bool) (a n : ℕ) → ((q : ℕ) → a ≤ q → q < a + n → t q ≡ false)
    → filter t (range_with_len a n) ≡ []
filter_none t a zero h = refl
filter_none t a (suc n) h =
    ap (λ b. cond b (a ∷ filter t (range_with_len (a + 1) n)) (filter t (range_with_len (a + 1) n)))
    (h a (omega arith) (omega arith))
    ∙ filter_none t (a + 1) n (λ q le lt. h q (omega arith) (omega arith))

-- two tests alike on a range
pub filter_alike : (t u : ℕ → Bool) (a n : ℕ) → ((q : ℕ) → a ≤ q → q < a + n → t q ≡ u q)
    → filter t (range_with_len a n) ≡ filter u (range_with_len a n)
filter_alike t u a zero h = refl
filter_alike t u a (suc n) h =
    ap (λ b. cond b (a ∷ filter t (range_with_len (a + 1) n)) (filter t (range_with_len (a + 1) n)))
    (h a (omega arith) (omega arith))
    ∙ ap (λ l. cond (u a) (a ∷ l) l) (filter_alike t u (a + 1) n
    (λ q le lt. h q (omega arith) (omega arith)))

-- where none past c passes, c is the last that may
pub up_to : (t : ℕ → Bool) (a n c : ℕ) → a ≤ c → c < a + n → ((q : ℕ) → c < q → t q ≡ false)
    → filter t (range_with_len a n) ≡ filter t (range_with_len a (c - a)) ++ cond (t c) (c ∷ []) []
up_to t a n c le lt past =
    let k : ℕ = c - a in let m : ℕ = n - (k + 1) in
    let long : n ≡ k + suc m = omega arith in let here : a + k ≡ c = omega arith in
    ap (filter t) (split_range a k m n long)
    ∙ ap (λ x. filter t (range_with_len a k ++ x ∷ range_with_len (x + 1) m)) here
    ∙ filter-append t (range_with_len a k) (c ∷ range_with_len (c + 1) m)
    ∙ ap (λ l. filter t (range_with_len a k) ++ cond (t c) (c ∷ l) l)
    (filter_none t (c + 1) m (λ q g h. past q (omega arith)))

abbrev pub last_of : List ℕ → Option ℕ
last_of xs = slice_get xs (length xs - 1)

abbrev pub is_last : List ℕ → ℕ → Bool
is_last xs x = unwrap_or (option_map (nat_eq x) (last_of xs)) false

-- what stands among the numbers that pass
pub among : (t : ℕ → Bool) (a n i x : ℕ) → slice_get (filter t (range_with_len a n)) i ≡ Some x
    → (a ≤ x) × (x < a + n) × (t x ≡ true)
among t a zero i x h = absurd (none-some x h)
among t a (suc n) i x h = by (λ j k. among t (a + 1) n j x k) (t a) refl h
  where
    more : (y : ℕ) → ((a + 1) ≤ y) × (y < (a + 1) + n) × (t y ≡ true)
        → (a ≤ y) × (y < a + suc n) × (t y ≡ true)
    more y w = (let l = w.0 in omega arith, let l = w.1 in omega arith, w.2)

    by : ((j : ℕ) → slice_get (filter t (range_with_len (a + 1) n)) j ≡ Some x
        → ((a + 1) ≤ x) × (x < (a + 1) + n) × (t x ≡ true)) → (b : Bool) → t a ≡ b
        → slice_get (cond (t a) (a ∷ filter t (range_with_len (a + 1) n))
        (filter t (range_with_len (a + 1) n))) i ≡ Some x → (a ≤ x) × (x < a + suc n) × (t x ≡ true)
    by rest false e g = more x (rest i (subst
        (λ b. slice_get (cond b (a ∷ filter t (range_with_len (a + 1) n))
        (filter t (range_with_len (a + 1) n))) i ≡ Some x) e g))
    by rest true e g = at i (subst (λ b. slice_get
        (cond b (a ∷ filter t (range_with_len (a + 1) n)) (filter t (range_with_len (a + 1) n))) i ≡
        Some x) e g)
      where
        at : (j : ℕ) → slice_get (a ∷ filter t (range_with_len (a + 1) n)) j ≡ Some x
            → (a ≤ x) × (x < a + suc n) × (t x ≡ true)
        at zero k = let is : a ≡ x = same_Some a x k in
            (omega arith, omega arith, subst (λ y. t y ≡ true) is e)
        at (suc j) k = more x (rest j k)

last_push : (xs : List ℕ) (x : ℕ) → last_of (xs ++ x ∷ []) ≡ Some x
last_push xs x =
    let long : length (xs ++ x ∷ []) - 1 ≡ length xs = omega (arith, length_push xs x) in
    ap (slice_get (xs ++ x ∷ [])) long
    ∙ slice_get_read (xs ++ x ∷ []) (length xs + 1) (length xs) x (sym (length_push xs x))
    (omega arith) (sym (get_or_push xs x x (length xs) refl))

-- the last of the numbers that pass is c exactly where c passes
pub last_passes : (t : ℕ → Bool) (a n c : ℕ) → a ≤ c → c < a + n → ((q : ℕ) → c < q → t q ≡ false)
    → is_last (filter t (range_with_len a n)) c ≡ t c
last_passes t a n c le lt past = ap (λ l. is_last l c) (up_to t a n c le lt past) ∙ by (t c) refl
  where
    front : List ℕ
    front = filter t (range_with_len a (c - a))

    by : (b : Bool) → t c ≡ b → is_last (front ++ cond b (c ∷ []) []) c ≡ b
    by true e = ap (λ o. unwrap_or (option_map (nat_eq c) o) false) (last_push front c)
        ∙ eq-eqb c c refl
    by false e = ap (λ l. is_last l c) (append-nil front) ∙ below (last_of front) refl
      where
        below : (o : Option ℕ) → last_of front ≡ o
            → unwrap_or (option_map (nat_eq c) o) false ≡ false
        below None g = refl
        below (Some x) g = let w = among t a (c - a) (length front - 1) x g in
            apart (nat_eq c x) refl w.1
          where
            apart : (b : Bool) → nat_eq c x ≡ b → x < a + (c - a) → b ≡ false
            apart false k m = refl
            apart true k m = let e : c ≡ x = eqb-true c x k in absurd (omega arith)

-- the row with one cell more
pub row_grows : (t u : ℕ → Bool) (a n c : ℕ) → a ≤ c → c < a + n → ((q : ℕ) → c < q → t q ≡ false)
    → ((q : ℕ) → u q ≡ (t q || nat_eq q c))
    → filter u (range_with_len a n) ≡ cond (is_last (filter t (range_with_len a n)) c)
    (filter t (range_with_len a n)) (filter t (range_with_len a n) ++ c ∷ [])
row_grows t u a n c le lt past is = by (t c) refl
  where
    row : List ℕ
    row = filter t (range_with_len a n)

    or_false : (b : Bool) → (b || false) ≡ b
    or_false true = refl
    or_false false = refl

    differ : (q : ℕ) → q ≢ c → nat_eq q c ≡ false
    differ q ne = by (nat_eq q c) refl
      where
        by : (b : Bool) → nat_eq q c ≡ b → b ≡ false
        by false k = refl
        by true k = absurd (ne (eqb-true q c k))

    other : (q : ℕ) → q ≢ c → u q ≡ t q
    other q ne = is q ∙ ap (λ b. t q || b) (differ q ne) ∙ or_false (t q)

    or_true : (b : Bool) → (b || true) ≡ true
    or_true true = refl
    or_true false = refl

    here : u c ≡ true
    here = is c ∙ ap (λ b. t c || b) (eq-eqb c c refl) ∙ or_true (t c)

    past_u : (q : ℕ) → c < q → u q ≡ false
    past_u q g = let ne : q ≢ c = omega arith in other q ne ∙ past q g

    grown : filter u (range_with_len a n) ≡ filter t (range_with_len a (c - a)) ++ c ∷ []
    grown = up_to u a n c le lt past_u ∙ ap
        (λ b. filter u (range_with_len a (c - a)) ++ cond b (c ∷ []) []) here
        ∙ ap (λ l. l ++ c ∷ []) (filter_alike u t a (c - a) (λ q g h. let ne : q ≢ c =
        omega arith in other q ne))

    by : (b : Bool) → t c ≡ b → filter u (range_with_len a n) ≡ cond (is_last row c) row
        (row ++ c ∷ [])
    by true e = grown ∙ sym (up_to t a n c le lt past
        ∙ ap (λ b. filter t (range_with_len a (c - a)) ++ cond b (c ∷ []) []) e)
        ∙ sym (ap (λ b. cond b row (row ++ c ∷ [])) (last_passes t a n c le lt past ∙ e))
    by false e = grown ∙ ap (λ l. l ++ c ∷ [])
        (sym (up_to t a n c le lt past ∙ ap
        (λ b. filter t (range_with_len a (c - a)) ++ cond b (c ∷ []) []) e
        ∙ append-nil (filter t (range_with_len a (c - a)))))
        ∙ sym (ap (λ b. cond b row (row ++ c ∷ [])) (last_passes t a n c le lt past ∙ e))
