-- Each cell is in one group.
use Rattle.std.proofs.Common.{◌≡◌, ◌≢◌, refl, ap, sym, subst, ◌∙◌, ℕ, zero, suc, ◌+◌, ◌-◌, ◌<◌, ◌≤◌}
use Rattle.std.proofs.Common.{List, [], ◌∷◌, ◌++◌, map, take, length, slice_get, Bool, true, false}
use Rattle.std.proofs.Common.{cond, not, ◌||◌, nat_eq, nat_lt, Some, arith}
use Rattle.std.proofs.lemmas.Bool.{eqb-true, eqb-false, true≢false, false≢true, lt-ltb, le-ltb}
use Rattle.std.proofs.lemmas.Bool.{ltb-true, ltb-false}
use Rattle.std.proofs.lemmas.List.Sums.{sum_by-append, sum_by-cons}
use Rattle.std.proofs.lemmas.List.Folds.{list_any-append}
use Rattle.std.specs.List.{count_by, filter, flat_map, list_any, range_with_len}
use Rattle.ix_belmap.specs.Groups.{has_cell, times_in}
use Rattle.ix_belmap.proofs.Lists.{take_more as next_taken}

-- how often a cell is in a list
abbrev pub times : List ℕ → ℕ → ℕ
times xs q = count_by (nat_eq q) xs

pub times-cons : (q x : ℕ) (xs : List ℕ) → times (x ∷ xs) q ≡ cond (nat_eq q x) 1 0 + times xs q
times-cons q x xs = sum_by-cons (λ y. cond (nat_eq q y) 1 0) x xs

pub times-append : (q : ℕ) (xs ys : List ℕ) → times (xs ++ ys) q ≡ times xs q + times ys q
times-append q xs ys = sum_by-append (λ y. cond (nat_eq q y) 1 0) xs ys

pub times_in-cons : (q : ℕ) (g : List ℕ) (gs : List (List ℕ))
    → times_in (g ∷ gs) q ≡ times g q + times_in gs q
times_in-cons q g gs = times-append q g (flat_map (λ group. group) gs)

pub times_in-append : (q : ℕ) (xs ys : List (List ℕ))
    → times_in (xs ++ ys) q ≡ times_in xs q + times_in ys q
times_in-append q [] ys = let z : times_in [] q ≡ 0 = refl in omega arith
times_in-append q (x ∷ xs) ys = let a = times_in-cons q x (xs ++ ys) in let b =
    times_in-cons q x xs in let c = times_in-append q xs ys in omega arith

add_cond : (b : Bool) (x y n : ℕ) → x ≡ n + y → cond b x n ≡ n + cond b y 0
add_cond true x y n h = h
add_cond false x y n h = omega arith

-- the groups that pass and those that don't are all
pub times_in-split : (q : ℕ) (p : List ℕ → Bool) (gs : List (List ℕ))
    → times_in (filter p gs) q + times_in (filter (λ g. not (p g)) gs) q ≡ times_in gs q
times_in-split q p [] = refl
times_in-split q p (g ∷ gs) = by (p g) (times_in-split q p gs)
  where
    by : (b : Bool) → times_in (filter p gs) q + times_in
        (filter (λ g. not (p g)) gs) q ≡ times_in gs q
        → times_in (cond b (g ∷ filter p gs) (filter p gs)) q + times_in
        (cond (not b) (g ∷ filter (λ g. not (p g)) gs) (filter (λ g. not (p g)) gs)) q ≡
        times_in (g ∷ gs) q
    by true h = let a = times_in-cons q g (filter p gs) in let b = times_in-cons q g gs in
        omega arith
    by false h = let a = times_in-cons q g (filter (λ g. not (p g)) gs) in let b =
        times_in-cons q g gs in omega arith

eq_no : (q x : ℕ) → q ≢ x → nat_eq q x ≡ false
eq_no q x ne = by (nat_eq q x) refl
  where
    by : (b : Bool) → nat_eq q x ≡ b → b ≡ false
    by false k = refl
    by true k = absurd (ne (eqb-true q x k))

-- the first so many numbers of a range that pass
abbrev pub firsts : ℕ → (ℕ → Bool) → (a n : ℕ) → List ℕ
firsts m t a n = take m (filter t (range_with_len a n))

firsts_step : (m : ℕ) (t : ℕ → Bool) (a n : ℕ) (b : Bool) → t a ≡ b
    → firsts (suc m) t a (suc n) ≡ cond b (a ∷ firsts m t (a + 1) n) (firsts (suc m) t (a + 1) n)
firsts_step m t a n true e = ap (λ b. take (suc m)
    (cond b (a ∷ filter t (range_with_len (a + 1) n)) (filter t (range_with_len (a + 1) n)))) e
firsts_step m t a n false e = ap (λ b. take (suc m)
    (cond b (a ∷ filter t (range_with_len (a + 1) n)) (filter t (range_with_len (a + 1) n)))) e

-- what is among them is in the range and passes
pub firsts_pass : (m : ℕ) (t : ℕ → Bool) (a n q : ℕ) → list_any (nat_eq q) (firsts m t a n) ≡ true
    → (a ≤ q) × (q < a + n) × (t q ≡ true)
firsts_pass zero t a n q h = absurd (false≢true h)
firsts_pass (suc m) t a zero q h = absurd (false≢true h)
firsts_pass (suc m) t a (suc n) q h = by (firsts_pass m t (a + 1) n q)
    (firsts_pass (suc m) t (a + 1) n q) (t a) refl
    (sym (ap (list_any (nat_eq q)) (firsts_step m t a n (t a) refl)) ∙ h)
  where
    more : (a + 1 ≤ q) × (q < (a + 1) + n) × (t q ≡ true) → (a ≤ q) × (q < a + suc n) × (t q ≡ true)
    more w = (let l = w.0 in omega arith, let l = w.1 in omega arith, w.2)

    by : (list_any (nat_eq q) (firsts m t (a + 1) n) ≡ true
        → (a + 1 ≤ q) × (q < (a + 1) + n) × (t q ≡ true))
        → (list_any (nat_eq q) (firsts (suc m) t (a + 1) n) ≡ true
        → (a + 1 ≤ q) × (q < (a + 1) + n) × (t q ≡ true))
        → (b : Bool) → t a ≡ b → list_any (nat_eq q)
        (cond b (a ∷ firsts m t (a + 1) n) (firsts (suc m) t (a + 1) n)) ≡ true
        → (a ≤ q) × (q < a + suc n) × (t q ≡ true)
    by one all false e g = more (all g)
    by one all true e g = head (nat_eq q a) refl g
      where
        head : (b : Bool) → nat_eq q a ≡ b
            → (b || list_any (nat_eq q) (firsts m t (a + 1) n)) ≡ true
            → (a ≤ q) × (q < a + suc n) × (t q ≡ true)
        head true k g = let is : q ≡ a = eqb-true q a k in
            (omega arith, omega arith, subst (λ x. t x ≡ true) (sym is) e)
        head false k g = more (one g)

-- each of them once
pub firsts_once : (m : ℕ) (t : ℕ → Bool) (a n q : ℕ)
    → times (firsts m t a n) q ≡ cond (list_any (nat_eq q) (firsts m t a n)) 1 0
firsts_once zero t a n q = refl
firsts_once (suc m) t a zero q = refl
firsts_once (suc m) t a (suc n) q =
    ap (λ l. times l q) (firsts_step m t a n (t a) refl)
    ∙ by (firsts_once m t (a + 1) n q) (firsts_once (suc m) t (a + 1) n q) (t a)
    ∙ sym (ap (λ l. cond (list_any (nat_eq q) l) 1 0) (firsts_step m t a n (t a) refl))
  where
    none : q ≡ a → list_any (nat_eq q) (firsts m t (a + 1) n) ≡ false
    none is = no (list_any (nat_eq q) (firsts m t (a + 1) n)) refl
      where
        no : (b : Bool) → list_any (nat_eq q) (firsts m t (a + 1) n) ≡ b → b ≡ false
        no false g = refl
        no true g = let w = firsts_pass m t (a + 1) n q g in let l = w.0 in absurd (omega arith)

    by : times (firsts m t (a + 1) n) q ≡ cond (list_any (nat_eq q) (firsts m t (a + 1) n)) 1 0
        → times (firsts (suc m) t (a + 1) n) q ≡ cond
        (list_any (nat_eq q) (firsts (suc m) t (a + 1) n)) 1 0
        → (b : Bool) → times (cond b (a ∷ firsts m t (a + 1) n) (firsts (suc m) t (a + 1) n)) q ≡
        cond (list_any (nat_eq q) (cond b (a ∷ firsts m t (a + 1) n)
        (firsts (suc m) t (a + 1) n))) 1 0
    by one all false = all
    by one all true = times-cons q a (firsts m t (a + 1) n)
        ∙ ap (λ x. cond (nat_eq q a) 1 0 + x) one ∙ head (nat_eq q a) refl
      where
        head : (b : Bool) → nat_eq q a ≡ b
            → cond b 1 0 + cond (list_any (nat_eq q) (firsts m t (a + 1) n)) 1 0 ≡ cond
            (b || list_any (nat_eq q) (firsts m t (a + 1) n)) 1 0
        head true k = ap (λ b. 1 + cond b 1 0) (none (eqb-true q a k))
        head false k = zero_add (cond (list_any (nat_eq q) (firsts m t (a + 1) n)) 1 0)
          where
            zero_add : (x : ℕ) → 0 + x ≡ x
            zero_add x = omega arith

-- A list of groups, each of a port cell of this number and the first inner cells that pass a test,
-- which no cell of an earlier
-- group passes.
pub record IsGroupOf (groups : List (List ℕ)) (ports cells port : ℕ) : Type 0 where
  pub most : ℕ
  pub test : ℕ → Bool
  pub is : slice_get groups port ≡ Some (port ∷ firsts most test ports (cells - ports))
  pub apart : (q : ℕ) → has_cell (take port groups) q ≡ true → test q ≡ false

pub record IsPrefix (groups : List (List ℕ)) (ports cells k q : ℕ) : Type 0 where
  pub once : times_in (take k groups) q ≡ cond (has_cell (take k groups) q) 1 0
  pub port : q < ports → has_cell (take k groups) q ≡ nat_lt q k
  pub past : cells ≤ q → has_cell (take k groups) q ≡ false

or_false : (b : Bool) → (b || false) ≡ b
or_false true = refl
or_false false = refl

step : (groups : List (List ℕ)) (ports cells k q : ℕ) → k < ports → ports ≤ cells
    → IsGroupOf groups ports cells k → IsPrefix groups ports cells k q
    → IsPrefix groups ports cells (k + 1) q
step groups ports cells k q lt le g before = record {
  once = ap (λ l. times_in l q) next ∙ times_in-append q (take k groups) (group ∷ [])
      ∙ ap (λ x. times_in (take k groups) q + x)
      (times_in-cons q group [] ∙ add_none (times group q) ∙ count)
      ∙ ap (λ x. x + cond (nat_eq q k || list_any (nat_eq q) members) 1 0) before.once
      ∙ both (has_cell (take k groups) q) (nat_eq q k || list_any (nat_eq q) members) not_twice
      ∙ sym (ap (λ b. cond b 1 0) has);
  port = λ low. has ∙ ap (λ b. b || (nat_eq q k || list_any (nat_eq q) members)) (before.port low)
      ∙ ap (λ b. nat_lt q k || (nat_eq q k || b)) (not_port low)
      ∙ ap (λ b. nat_lt q k || b) (or_false (nat_eq q k))
      ∙ less (nat_lt q k) refl (nat_eq q k) refl;
  past = λ high. has ∙ ap (λ b. b || (nat_eq q k || list_any (nat_eq q) members)) (before.past high)
      ∙ ap (λ b. false || (b || list_any (nat_eq q) members))
      (eq_no q k (let ne : q ≢ k = omega arith in ne)) ∙ not_past high;
}
  where
    members : List ℕ
    members = firsts g.most g.test ports (cells - ports)

    group : List ℕ
    group = k ∷ members

    next : take (k + 1) groups ≡ take k groups ++ group ∷ []
    next = next_taken groups k group g.is

    has : has_cell (take (k + 1) groups) q ≡
        (has_cell (take k groups) q || (nat_eq q k || list_any (nat_eq q) members))
    has = ap (λ l. has_cell l q) next ∙ list_any-append (list_any (nat_eq q)) (take k groups)
        (group ∷ []) ∙ ap (λ b. has_cell (take k groups) q || b)
        (or_false (nat_eq q k || list_any (nat_eq q) members))

    add_none : (x : ℕ) → x + times_in [] q ≡ x
    add_none x = let z : times_in [] q ≡ 0 = refl in omega arith

    not_port : q < ports → list_any (nat_eq q) members ≡ false
    not_port low = no (list_any (nat_eq q) members) refl
      where
        no : (b : Bool) → list_any (nat_eq q) members ≡ b → b ≡ false
        no false h = refl
        no true h = let w = firsts_pass g.most g.test ports (cells - ports) q h in let l = w.0 in
            absurd (omega arith)

    not_past : cells ≤ q → list_any (nat_eq q) members ≡ false
    not_past high = no (list_any (nat_eq q) members) refl
      where
        no : (b : Bool) → list_any (nat_eq q) members ≡ b → b ≡ false
        no false h = refl
        no true h = let w = firsts_pass g.most g.test ports (cells - ports) q h in let l = w.1 in
            absurd (omega arith)

    count : times group q ≡ cond (nat_eq q k || list_any (nat_eq q) members) 1 0
    count = times-cons q k members ∙ ap (λ x. cond (nat_eq q k) 1 0 + x)
        (firsts_once g.most g.test ports (cells - ports) q) ∙ by (nat_eq q k) refl
      where
        by : (b : Bool) → nat_eq q k ≡ b → cond b 1 0 + cond
            (list_any (nat_eq q) members) 1 0 ≡ cond (b || list_any (nat_eq q) members) 1 0
        by true e = let is : q ≡ k = eqb-true q k e in
            ap (λ b. 1 + cond b 1 0) (not_port (omega arith))
        by false e = zero_add (cond (list_any (nat_eq q) members) 1 0)
          where
            zero_add : (x : ℕ) → 0 + x ≡ x
            zero_add x = omega arith

    not_twice : has_cell (take k groups) q ≡ true
        → (nat_eq q k || list_any (nat_eq q) members) ≡ false
    not_twice h = by (nat_eq q k) refl (list_any (nat_eq q) members) refl
      where
        by : (b : Bool) → nat_eq q k ≡ b → (d : Bool) → list_any (nat_eq q) members ≡ d
            → (b || d) ≡ false
        by true e d f = let is : q ≡ k = eqb-true q k e in
            absurd (true≢false (sym h ∙ before.port (omega arith) ∙ le-ltb q k (omega arith)))
        by false e true f = let w = firsts_pass g.most g.test ports (cells - ports) q f in
            absurd (true≢false (sym w.2 ∙ g.apart q h))
        by false e false f = refl

    both : (a b : Bool) → (a ≡ true → b ≡ false) → cond a 1 0 + cond b 1 0 ≡ cond (a || b) 1 0
    both true b h = ap (λ b. 1 + cond b 1 0) (h refl)
    both false true h = refl
    both false false h = refl

    less : (a : Bool) → nat_lt q k ≡ a → (b : Bool) → nat_eq q k ≡ b → (a || b) ≡ nat_lt q (k + 1)
    less true h b e = let l : q < k = ltb-true q k h in sym (lt-ltb q (k + 1) (omega arith))
    less false h true e = let is : q ≡ k = eqb-true q k e in sym (lt-ltb q (k + 1) (omega arith))
    less false h false e = let ge : k ≤ q = ltb-false q k h in let ne : q ≢ k = eqb-false q k e in
        sym (le-ltb q (k + 1) (omega arith))

pub prefixes : (groups : List (List ℕ)) (ports cells : ℕ) → ports ≤ cells
    → ((p : ℕ) → p < ports → IsGroupOf groups ports cells p) → (k q : ℕ) → k ≤ ports
    → IsPrefix groups ports cells k q
prefixes groups ports cells le each zero q h =
    record { once = refl; port = λ low. sym (le-ltb q 0 (omega arith)); past = λ high. refl }
prefixes groups ports cells le each (suc k) q h =
    subst (λ j. IsPrefix groups ports cells j q) (let e : k + 1 ≡ suc k = omega arith in e)
    (step groups ports cells k q (omega arith) le (each k (omega arith))
    (prefixes groups ports cells le each k q (omega arith)))

take_whole : {A : Type 0} (xs : List A) (n : ℕ) → length xs ≡ n → take n xs ≡ xs
take_whole [] zero h = refl
take_whole [] (suc n) h = refl
take_whole (x ∷ xs) zero h = absurd (omega arith)
take_whole (x ∷ xs) (suc n) h = ap (λ l. x ∷ l) (take_whole xs n (omega arith))

-- the cells alone
times_in_singles : (q : ℕ) (xs : List ℕ) → times_in (map (λ x. x ∷ []) xs) q ≡ times xs q
times_in_singles q [] = refl
times_in_singles q (x ∷ xs) =
    let a = times_in-cons q (x ∷ []) (map (λ x. x ∷ []) xs) in let b = times-cons q x xs in let c =
    times-cons q x [] in let d : times [] q ≡ 0 = refl in let e = times_in_singles q xs in
    omega arith

-- a number of the range that passes is there
passing_in : (t : ℕ → Bool) (a n q : ℕ) → a ≤ q → q < a + n → t q ≡ true
    → list_any (nat_eq q) (filter t (range_with_len a n)) ≡ true
passing_in t a zero q le lt h = absurd (omega arith)
passing_in t a (suc n) q le lt h = by (passing_in t (a + 1) n q) (nat_eq q a) refl
  where
    or_right : (b : Bool) → (b || true) ≡ true
    or_right true = refl
    or_right false = refl

    keeps : (b d : Bool) → list_any (nat_eq q) (filter t (range_with_len (a + 1) n)) ≡ true
        → list_any (nat_eq q) (cond b (a ∷ filter t (range_with_len (a + 1) n))
        (filter t (range_with_len (a + 1) n))) ≡ true
    keeps true d e = ap (λ b. nat_eq q a || b) e ∙ or_right (nat_eq q a)
    keeps false d e = e

    by : (a + 1 ≤ q → q < (a + 1) + n → t q ≡ true
        → list_any (nat_eq q) (filter t (range_with_len (a + 1) n)) ≡ true)
        → (b : Bool) → nat_eq q a ≡ b → list_any (nat_eq q)
        (cond (t a) (a ∷ filter t (range_with_len (a + 1) n))
        (filter t (range_with_len (a + 1) n))) ≡ true
    by rest false e = let ne : q ≢ a = eqb-false q a e in
        keeps (t a) true (rest (omega arith) (omega arith) h)
    by rest true e =
        ap (λ b. list_any (nat_eq q) (cond b (a ∷ filter t (range_with_len (a + 1) n))
        (filter t (range_with_len (a + 1) n)))) (ap t (sym (eqb-true q a e)) ∙ h)
        ∙ ap (λ b. b || list_any (nat_eq q) (filter t (range_with_len (a + 1) n))) e

rest_once : (t : ℕ → Bool) (a n q : ℕ) → times (filter t (range_with_len a n)) q ≡ cond
    (list_any (nat_eq q) (filter t (range_with_len a n))) 1 0
rest_once t a n q =
    let m : ℕ = length (filter t (range_with_len a n)) in let whole =
    take_whole (filter t (range_with_len a n)) m refl in
    sym (ap (λ l. times l q) whole) ∙ firsts_once m t a n q
    ∙ ap (λ l. cond (list_any (nat_eq q) l) 1 0) whole

rest_pass : (t : ℕ → Bool) (a n q : ℕ) → list_any (nat_eq q) (filter t (range_with_len a n)) ≡ true
    → (a ≤ q) × (q < a + n) × (t q ≡ true)
rest_pass t a n q h =
    let m : ℕ = length (filter t (range_with_len a n)) in
    firsts_pass m t a n q (ap (list_any (nat_eq q))
    (take_whole (filter t (range_with_len a n)) m refl) ∙ h)

-- Each cell is once in the groups of the ports that pass, in those that don't, or alone.
pub each_once : (p : List ℕ → Bool) (groups : List (List ℕ)) (ports cells : ℕ) → ports ≤ cells
    → length groups ≡ ports → ((k : ℕ) → k < ports → IsGroupOf groups ports cells k)
    → (q : ℕ) → times_in (filter p groups ++ filter (λ g. not (p g)) groups ++ map (λ x. x ∷ [])
    (filter (λ x. not (has_cell groups x)) (range_with_len ports (cells - ports)))) q ≡ cond
    (nat_lt q cells) 1 0
each_once p groups ports cells le count each q =
    times_in-append q (filter p groups ++ filter (λ g. not (p g)) groups) (map (λ x. x ∷ []) others)
    ∙ ap (λ x. times_in (filter p groups ++ filter (λ g. not (p g)) groups) q + x)
    (times_in_singles q others ∙ rest_once free ports (cells - ports) q)
    ∙ ap (λ x. x + cond (list_any (nat_eq q) others) 1 0)
    (times_in-append q (filter p groups) (filter (λ g. not (p g)) groups))
    ∙ ap (λ x. x + cond (list_any (nat_eq q) others) 1 0)
    (times_in-split q p groups ∙ sym (ap (λ l. times_in l q) whole) ∙ all.once)
    ∙ by (has_cell (take ports groups) q) refl (list_any (nat_eq q) others) refl
  where
    free : ℕ → Bool
    free x = not (has_cell groups x)

    others : List ℕ
    others = filter free (range_with_len ports (cells - ports))

    whole : take ports groups ≡ groups
    whole = take_whole groups ports count

    all : IsPrefix groups ports cells ports q
    all = prefixes groups ports cells le each ports q (omega arith)

    low : q < ports → has_cell (take ports groups) q ≡ true
    low h = all.port h ∙ lt-ltb q ports h

    by : (a : Bool) → has_cell (take ports groups) q ≡ a → (b : Bool)
        → list_any (nat_eq q) others ≡ b → cond a 1 0 + cond b 1 0 ≡ cond (nat_lt q cells) 1 0
    by true h true e = let w = rest_pass free ports (cells - ports) q e in
        absurd (false≢true (sym (ap not (sym (ap (λ l. has_cell l q) whole) ∙ h)) ∙ w.2))
    by true h false e = within (nat_lt q cells) refl
      where
        within : (b : Bool) → nat_lt q cells ≡ b → 1 + 0 ≡ cond b 1 0
        within true g = refl
        within false g = let ge : cells ≤ q = ltb-false q cells g in
            absurd (true≢false (sym h ∙ all.past ge))
    by false h true e = let w = rest_pass free ports (cells - ports) q e in let l = w.1 in
        ap (λ b. cond b 1 0) (sym (lt-ltb q cells (omega arith)))
    by false h false e = out (nat_lt q cells) refl (nat_lt q ports) refl
      where
        out : (b : Bool) → nat_lt q cells ≡ b → (d : Bool) → nat_lt q ports ≡ d → 0 + 0 ≡ cond b 1 0
        out false g d f = refl
        out true g true f = absurd (true≢false (sym (low (ltb-true q ports f)) ∙ h))
        out true g false f =
            let lt : q < cells = ltb-true q cells g in let ge : ports ≤ q = ltb-false q ports f in
            absurd (true≢false (sym (passing_in free ports (cells - ports) q ge (omega arith)
            (ap not (sym (ap (λ l. has_cell l q) whole) ∙ h))) ∙ e))
