-- Lists of numbers of which each is new, and the first places of their items.
use Rattle.std.proofs.Common.{◌≡◌, ◌<◌, ◌≤◌, ◌∙◌, refl, ap, sym, subst, ℕ, zero, suc, ◌+◌}
use Rattle.std.proofs.Common.{Bool, true, false, not, ◌&&◌, ◌||◌, cond, nat_eq, nat_lt, arith}
use Rattle.std.proofs.Common.{List, [], ◌∷◌, ◌++◌, map, length, slice_get, Some, None}
use Rattle.std.proofs.Common.{option_map}
use Rattle.std.specs.List.{list_any, position, position_or_len, find}
use Rattle.std.proofs.lemmas.Bool.{lt-ltb, le-ltb, ltb-true, ltb-false, eq-eqb, eqb-false}
use Rattle.std.proofs.lemmas.Bool.{true≢false, ne_eqb}
use Rattle.std.proofs.lemmas.Option.{none-some, same_Some, slice_get-get_or}
use Rattle.std.proofs.lemmas.List.{append-nil, append_assoc}
use Rattle.std.proofs.lemmas.List.Folds.{list_any-append}
use Rattle.std.proofs.lemmas.List.Quantifiers.{position-Some}
use Rattle.ix_device_rules.specs.Rules.{is_new}

-- First places (as in ix_device).

one_less : (m n : ℕ) → nat_lt (1 + m) (suc n) ≡ nat_lt m n
one_less m n = by (nat_lt m n) refl
  where
    by : (b : Bool) → nat_lt m n ≡ b → nat_lt (1 + m) (suc n) ≡ b
    by true h = let lt : m < n = ltb-true m n h in lt-ltb (1 + m) (suc n) (omega arith)
    by false h = let le : n ≤ m = ltb-false m n h in le-ltb (1 + m) (suc n) (omega arith)

pub position_cons : {X : Type 0} (p : X → Bool) (x : X) (xs : List X)
    → position p (x ∷ xs) ≡ cond (p x) (Some 0) (option_map suc (position p xs))
position_cons p x xs = by (p x)
  where
    shifted : (m : ℕ) (b : Bool) → cond b (Some (1 + m)) None ≡ option_map suc (cond b (Some m) None)
    shifted m true = ap Some (omega arith)
    shifted m false = refl

    by : (b : Bool) → cond (nat_lt (cond (not b) (1 + position_or_len p xs) 0)
        (suc (length xs))) (Some (cond (not b) (1 + position_or_len p xs) 0)) None
        ≡ cond b (Some 0) (option_map suc (position p xs))
    by true = ap (λ b. cond b (Some 0) None) (lt-ltb 0 (suc (length xs)) (omega arith))
    by false = ap (λ b. cond b (Some (1 + position_or_len p xs)) None)
        (one_less (position_or_len p xs) (length xs))
        ∙ shifted (position_or_len p xs) (nat_lt (position_or_len p xs) (length xs))

-- the first item that passes stands at the first place
pub position_at : {X : Type 0} (p : X → Bool) (xs : List X) (k : ℕ) → position p xs ≡ Some k
    → (x : X) × (slice_get xs k ≡ Some x) × (p x ≡ true)
position_at p [] k h = absurd (none-some k h)
position_at p (y ∷ ys) k h = let at = position-Some p (y ∷ ys) k y h in
    (_, slice_get-get_or (y ∷ ys) k y at.0, at.1)

-- where an item passes there is a first place
pub place_of_any : {X : Type 0} (p : X → Bool) (xs : List X) → list_any p xs ≡ true
    → (k : ℕ) × (position p xs ≡ Some k)
place_of_any p [] h = absurd (true≢false (sym h))
place_of_any {X} p (x ∷ xs) h = by (p x) h (place_of_any p xs) (position_cons p x xs)
  where
    by : (b : Bool) → (b || list_any p xs) ≡ true
        → (list_any p xs ≡ true → (k : ℕ) × (position p xs ≡ Some k))
        → position p (x ∷ xs) ≡ cond b (Some 0) (option_map suc (position p xs))
        → (k : ℕ) × (position p (x ∷ xs) ≡ Some k)
    by true any rest is = (0, is)
    by false any rest is = let found = rest any in
        (suc found.0, is ∙ ap (option_map suc) found.1)

-- places of items go by what is asked of them
pub position_map : {X : Type 0} (f : X → ℕ) (n : ℕ) (xs : List X)
    → position (λ x. nat_eq (f x) n) xs ≡ position (λ y. nat_eq y n) (map f xs)
position_map f n [] = refl
position_map f n (x ∷ xs) = position_cons (λ x. nat_eq (f x) n) x xs
    ∙ (ap (λ o. cond (nat_eq (f x) n) (Some 0) (option_map suc o)) (position_map f n xs)
    ∙ sym (position_cons (λ y. nat_eq y n) (f x) (map f xs)))

pub any_of_found : {X : Type 0} (p : X → Bool) (xs : List X) (x : X) → find p xs ≡ Some x
    → list_any p xs ≡ true
any_of_found p [] x e = absurd (none-some x e)
any_of_found p (y ∷ ys) x e = by (p y) e (any_of_found p ys x)
  where
    by : (b : Bool) → cond b (Some y) (find p ys) ≡ Some x
        → (find p ys ≡ Some x → list_any p ys ≡ true) → (b || list_any p ys) ≡ true
    by true e rest = refl
    by false e rest = rest e

-- Each of these numbers is new, after some others.

abbrev pub fresh : List ℕ → List ℕ → Bool
fresh before [] = true
fresh before (x ∷ xs) = is_new before x && fresh (before ++ x ∷ []) xs

pub and_left : (a b : Bool) → (a && b) ≡ true → a ≡ true
and_left true b h = refl
and_left false b h = h

pub and_right : (a b : Bool) → (a && b) ≡ true → b ≡ true
and_right true b h = h
and_right false b h = absurd (true≢false (sym h))

pub and_both : (a b : Bool) → a ≡ true → b ≡ true → (a && b) ≡ true
and_both a b h e = ap (λ c. c && b) h ∙ e

-- of two lists, one behind the other
pub fresh_append : (before xs ys : List ℕ) → fresh before xs ≡ true
    → fresh (before ++ xs) ys ≡ true → fresh before (xs ++ ys) ≡ true
fresh_append before [] ys h e = ap (λ l. fresh l ys) (sym (append-nil before)) ∙ e
fresh_append before (x ∷ xs) ys h e =
    and_both (is_new before x) (fresh (before ++ x ∷ []) (xs ++ ys))
    (and_left (is_new before x) (fresh (before ++ x ∷ []) xs) h)
    (fresh_append (before ++ x ∷ []) xs ys
    (and_right (is_new before x) (fresh (before ++ x ∷ []) xs) h)
    (ap (λ l. fresh l ys) (append_assoc before (x ∷ []) xs) ∙ e))

-- each is among none of the others
not_among : (before xs : List ℕ) (k x : ℕ) → slice_get xs k ≡ Some x → fresh before xs ≡ true
    → list_any (nat_eq x) before ≡ false
not_among before [] k x at h = absurd (none-some x at)
not_among before (y ∷ ys) zero x at h = subst (λ z. list_any (nat_eq z) before ≡ false)
    (same_Some y x at)
    (not_true (list_any (nat_eq y) before)
    (and_left (is_new before y) (fresh (before ++ y ∷ []) ys) h))
  where
    not_true : (b : Bool) → not b ≡ true → b ≡ false
    not_true true h = sym h
    not_true false h = refl
not_among before (y ∷ ys) (suc k) x at h = first (list_any (nat_eq x) before)
    (list_any (nat_eq x) (y ∷ []))
    (sym (list_any-append (nat_eq x) before (y ∷ []))
    ∙ not_among (before ++ y ∷ []) ys k x at
    (and_right (is_new before y) (fresh (before ++ y ∷ []) ys) h))
  where
    first : (a b : Bool) → (a || b) ≡ false → a ≡ false
    first true b h = h
    first false b h = refl

differs : (y x : ℕ) → list_any (nat_eq x) (y ∷ []) ≡ false → nat_eq y x ≡ false
differs y x h = ne_eqb y x (λ e. eqb-false x y (by (nat_eq x y) h) (sym e))
  where
    by : (b : Bool) → (b || false) ≡ false → b ≡ false
    by true h = h
    by false h = refl

-- so each stands at its first place
pub first_place : (before xs : List ℕ) (k x : ℕ) → slice_get xs k ≡ Some x
    → fresh before xs ≡ true → position (λ y. nat_eq y x) xs ≡ Some k
first_place before [] k x at h = absurd (none-some x at)
first_place before (y ∷ ys) zero x at h = position_cons (λ z. nat_eq z x) y ys
    ∙ ap (λ b. cond b (Some 0) (option_map suc (position (λ z. nat_eq z x) ys)))
    (eq-eqb y x (same_Some y x at))
first_place before (y ∷ ys) (suc k) x at h = position_cons (λ z. nat_eq z x) y ys
    ∙ (ap (λ b. cond b (Some 0) (option_map suc (position (λ z. nat_eq z x) ys)))
    (differs y x (second (list_any (nat_eq x) before) (list_any (nat_eq x) (y ∷ []))
    (sym (list_any-append (nat_eq x) before (y ∷ []))
    ∙ not_among (before ++ y ∷ []) ys k x at rest)))
    ∙ ap (option_map suc) (first_place (before ++ y ∷ []) ys k x at rest))
  where
    rest : fresh (before ++ y ∷ []) ys ≡ true
    rest = and_right (is_new before y) (fresh (before ++ y ∷ []) ys) h

    second : (a b : Bool) → (a || b) ≡ false → b ≡ false
    second true b h = absurd (true≢false h)
    second false b h = h
