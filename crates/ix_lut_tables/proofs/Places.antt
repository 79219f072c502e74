-- The first place in a list at which a test passes.
use Rattle.std.proofs.Common.{◌≡◌, ◌<◌, ◌≤◌, refl, ap, sym, ◌∙◌, ℕ, suc, zero, ◌+◌, Bool, true}
use Rattle.std.proofs.Common.{false, cond, not, nat_lt, nat_eq, List, [], ◌∷◌, ◌++◌, take}
use Rattle.std.proofs.Common.{take_all, drop, length}
use Rattle.std.proofs.Common.{slice_get, map, subst}
use Rattle.std.proofs.Common.{Option, Some, None, option_map, option_and_then, arith}
use Rattle.std.specs.List.{find, position, position_or_len, AllByRecursion}
use Rattle.std.proofs.lemmas.Bool.{eq-eqb, eqb-true, eqb-false as ne_from, ne_eqb}
use Rattle.std.proofs.lemmas.Bool.{lt-ltb, le-ltb, ltb-true, ltb-false}
use Rattle.std.proofs.lemmas.Option.{same_Some, none-some, slice_get_within}
use Rattle.std.proofs.lemmas.Option.{get_or_from_slice_get}
use Rattle.std.proofs.lemmas.List.{take_more, map_more, length-take-le}
use Rattle.ix_first.specs.First.{or_later}

one_less : (m n : ℕ) → nat_lt (1 + m) (suc n) ≡ nat_lt m n
one_less m n = by (nat_lt m n) refl
  where
    by : (b : Bool) → nat_lt m n ≡ b → nat_lt (1 + m) (suc n) ≡ b
    by true h = let lt : m < n = ltb-true m n h in lt-ltb (1 + m) (suc n) (omega arith)
    by false h = let le : n ≤ m = ltb-false m n h in le-ltb (1 + m) (suc n) (omega arith)

-- item by item
pub position_cons : {X : Type 0} (p : X → Bool) (x : X) (xs : List X) → position p (x ∷ xs)
    ≡ cond (p x) (Some 0) (option_map (λ n. n + 1) (position p xs))
position_cons p x xs = by (p x)
  where
    shifted : (m : ℕ) (b : Bool) → cond b (Some (1 + m)) None
        ≡ option_map (λ n. n + 1) (cond b (Some m) None)
    shifted m true = ap Some (omega arith)
    shifted m false = refl

    by : (b : Bool) → cond (nat_lt (cond (not b) (1 + position_or_len p xs) 0) (suc (length xs)))
        (Some (cond (not b) (1 + position_or_len p xs) 0)) None
        ≡ cond b (Some 0) (option_map (λ n. n + 1) (position p xs))
    by true = ap (λ b. cond b (Some 0) None) (lt-ltb 0 (suc (length xs)) (omega arith))
    by false = ap (λ b. cond b (Some (1 + position_or_len p xs)) None)
        (one_less (position_or_len p xs) (length xs))
        ∙ shifted (position_or_len p xs) (nat_lt (position_or_len p xs) (length xs))

-- one more item that doesn't pass
none_after : {X : Type 0} (p : X → Bool) (xs : List X) (i : ℕ) (x : X)
    → position p (take i xs) ≡ None → slice_get xs i ≡ Some x → p x ≡ false
    → position p (take (suc i) xs) ≡ None
none_after p [] i x none at fails = absurd (none-some x at)
none_after p (y ∷ ys) zero x none at fails = let same : y ≡ x = same_Some y x at in
    position_cons p y [] ∙ ap (λ b. cond {A = Option ℕ} b (Some 0) None) (ap p same ∙ fails)
none_after p (y ∷ ys) (suc i) x none at fails =
    position_cons p y (take (suc i) ys)
    ∙ by (p y) (position p (take i ys)) (position p (take (suc i) ys))
    (λ q. none_after p ys i x q at fails) (sym (position_cons p y (take i ys)) ∙ none)
  where
    by : (b : Bool) (o next : Option ℕ) → (o ≡ None → next ≡ None)
        → cond b (Some 0) (option_map (λ n. n + 1) o) ≡ None
        → cond b (Some 0) (option_map (λ n. n + 1) next) ≡ None
    by true o next q h = absurd (none-some 0 (sym h))
    by false (Some n) next q h = absurd (none-some (n + 1) (sym h))
    by false None next q h = ap (option_map (λ n. n + 1)) (q refl)

pub none_further : {X : Type 0} (p : X → Bool) (xs : List X) (i : ℕ) (x : X)
    → position p (take i xs) ≡ None → slice_get xs i ≡ Some x → p x ≡ false
    → position p (take (i + 1) xs) ≡ None
none_further p xs i x none at fails = let e : i + 1 ≡ suc i = omega arith in
    ap (λ n. position p (take n xs)) e ∙ none_after p xs i x none at fails

-- the first item that passes
pub stops_at : {X : Type 0} (p : X → Bool) (xs : List X) (i : ℕ) (x : X)
    → position p (take i xs) ≡ None → slice_get xs i ≡ Some x → p x ≡ true
    → position p xs ≡ Some i
stops_at p [] i x none at passes = absurd (none-some x at)
stops_at p (y ∷ ys) zero x none at passes = let same : y ≡ x = same_Some y x at in
    position_cons p y ys
    ∙ ap (λ b. cond b (Some 0) (option_map (λ n. n + 1) (position p ys))) (ap p same ∙ passes)
stops_at p (y ∷ ys) (suc i) x none at passes =
    position_cons p y ys ∙ by (p y) (position p (take i ys)) (position p ys)
    (λ q. stops_at p ys i x q at passes) (sym (position_cons p y (take i ys)) ∙ none)
  where
    by : (b : Bool) (o found : Option ℕ) → (o ≡ None → found ≡ Some i)
        → cond b (Some 0) (option_map (λ n. n + 1) o) ≡ None
        → cond b (Some 0) (option_map (λ n. n + 1) found) ≡ Some (suc i)
    by true o found q h = absurd (none-some 0 (sym h))
    by false (Some n) found q h = absurd (none-some (n + 1) (sym h))
    by false None found q h = ap (option_map (λ n. n + 1)) (q refl) ∙ ap Some (omega arith)

-- the first item that passes is at the first place
pub find_place : {X : Type 0} (p : X → Bool) (xs : List X)
    → find p xs ≡ option_and_then (slice_get xs) (position p xs)
find_place p [] = refl
find_place {X} p (x ∷ xs) = by (p x) (find_place p xs)
    ∙ ap (option_and_then (slice_get (x ∷ xs))) (sym (position_cons p x xs))
  where
    next : (o : Option ℕ) → option_and_then (slice_get xs) o
        ≡ option_and_then (slice_get (x ∷ xs)) (option_map (λ n. n + 1) o)
    next None = refl
    next (Some n) = ap (slice_get (x ∷ xs)) (let e : suc n ≡ n + 1 = omega arith in e)

    by : (b : Bool) → find p xs ≡ option_and_then (slice_get xs) (position p xs)
        → cond b (Some x) (find p xs) ≡ option_and_then (slice_get (x ∷ xs))
        (cond b (Some 0) (option_map (λ n. n + 1) (position p xs)))
    by true h = refl
    by false h = h ∙ next (position p xs)

pub none_at_end : {X : Type 0} (p : X → Bool) (xs : List X) (i : ℕ)
    → position p (take i xs) ≡ None → length xs ≤ i → position p xs ≡ None
none_at_end p xs i none end = sym (ap (position p) (take_all i xs end)) ∙ none

-- what is left of a list begins with the item at this place
drop_next : {X : Type 0} (xs : List X) (i : ℕ) (x : X) → slice_get xs i ≡ Some x
    → drop i xs ≡ x ∷ drop (suc i) xs
drop_next [] i x at = absurd (none-some x at)
drop_next (y ∷ ys) zero x at = ap (λ k. k ∷ ys) (same_Some y x at)
drop_next (y ∷ ys) (suc i) x at = drop_next ys i x at

pub drop_at : {X : Type 0} (xs : List X) (i : ℕ) (x : X) → slice_get xs i ≡ Some x
    → drop i xs ≡ x ∷ drop (i + 1) xs
drop_at xs i x at = let e : suc i ≡ i + 1 = omega arith in
    drop_next xs i x at ∙ ap (λ n. x ∷ drop n xs) e

pub nat_eq_sym : (m n : ℕ) → nat_eq m n ≡ nat_eq n m
nat_eq_sym m n = by (nat_eq m n) refl
  where
    by : (b : Bool) → nat_eq m n ≡ b → b ≡ nat_eq n m
    by true h = sym (eq-eqb n m (sym (eqb-true m n h)))
    by false h = sym (ne_eqb n m (λ s. ne_from m n h (sym s)))

pub position_push : {X : Type 0} (p : X → Bool) (xs : List X) (y : X)
    → position p (xs ++ y ∷ []) ≡ or_later (position p xs) (p y) (length xs)
position_push p [] y = position_cons p y [] ∙ by (p y)
  where
    by : (b : Bool) → cond {A = Option ℕ} b (Some 0) None ≡ or_later None b 0
    by true = refl
    by false = refl
position_push p (x ∷ xs) y =
    position_cons p x (xs ++ y ∷ [])
    ∙ ap (λ o. cond (p x) (Some 0) (option_map (λ n. n + 1) o)) (position_push p xs y)
    ∙ by (p x) (position p xs)
    ∙ ap (λ o. or_later o (p y) (length (x ∷ xs))) (sym (position_cons p x xs))
  where
    later : (b : Bool) → option_map (λ n. n + 1) (or_later None b (length xs))
        ≡ or_later None b (suc (length xs))
    later true = ap Some (omega arith)
    later false = refl

    by : (b : Bool) (o : Option ℕ)
        → cond b (Some 0) (option_map (λ n. n + 1) (or_later o (p y) (length xs)))
        ≡ or_later (cond b (Some 0) (option_map (λ n. n + 1) o)) (p y) (suc (length xs))
    by true o = refl
    by false (Some n) = refl
    by false None = later (p y)

-- the first place among one item more
pub one_more_place : {X : Type 0} (p : X → Bool) (xs : List X) (i : ℕ) (x : X)
    → slice_get xs i ≡ Some x
    → or_later (position p (take i xs)) (p x) i ≡ position p (take (i + 1) xs)
one_more_place p xs i x at =
    let lt : i < length xs = slice_get_within xs i x at in
    let le : length (take i xs) ≡ i = length-take-le i xs (omega (arith, lt)) in
    sym (ap (position p) (take_more xs i x lt
    ∙ ap (λ y. take i xs ++ y ∷ []) (get_or_from_slice_get xs i x x at))
    ∙ position_push p (take i xs) x ∙ ap (or_later (position p (take i xs)) (p x)) le)

-- what holds of all items holds of each
pub at_place : {A : Type 0} (P : A → Type 0) (xs : List A) (i : ℕ) (x : A)
    → AllByRecursion P xs → slice_get xs i ≡ Some x → P x
at_place P [] i x all h = absurd (none-some x h)
at_place P (y ∷ ys) zero x all h = subst P (same_Some y x h) all.0
at_place P (y ∷ ys) (suc i) x all h = at_place P ys i x all.1 h

-- the first i + 1 items are the first i and the next
pub map_take_next : {A B : Type 0} (f : A → B) (xs : List A) (i : ℕ) (x : A)
    → slice_get xs i ≡ Some x → map f (take (i + 1) xs) ≡ map f (take i xs) ++ f x ∷ []
map_take_next f xs i x h = map_more f xs i x (slice_get_within xs i x h)
    ∙ ap (λ y. map f (take i xs) ++ f y ∷ []) (get_or_from_slice_get xs i x x h)

pub none_more_place : {X : Type 0} (p : X → Bool) (xs : List X) (i : ℕ) (x : X)
    → slice_get xs i ≡ Some x → p x ≡ false
    → position p (take i xs) ≡ position p (take (i + 1) xs)
none_more_place p xs i x at fails = stays (position p (take i xs))
    ∙ ap (λ b. or_later (position p (take i xs)) b i) (sym fails) ∙ one_more_place p xs i x at
  where
    stays : (o : Option ℕ) → o ≡ or_later o false i
    stays None = refl
    stays (Some n) = refl
