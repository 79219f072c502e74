-- The first place in a list, item by item.
use Rattle.std.proofs.Common.{◌≡◌, ◌<◌, ◌≤◌, refl, ap, sym, ◌∙◌, ℕ, suc, ◌+◌, Bool, true, false, cond, not, nat_lt, List, [], ◌∷◌, ◌++◌, take, length, slice_get, Option, Some, None, option_map, is_some, ◌||◌, arith}
use Rattle.std.specs.List.{find, position, position_or_len, list_any}
use Rattle.std.proofs.lemmas.Bool.{lt-ltb, le-ltb, ltb-true, ltb-false}
use Rattle.ix_first.specs.First.{or_later}
use Rattle.ix_device.proofs.Walks.{take_next, length_take}

one_less : (m n : ℕ) → nat_lt (1 + m) (suc n) ≡ nat_lt m n
one_less m n = by (nat_lt m n) refl
  where
    by : (b : Bool) → nat_lt m n ≡ b → nat_lt (1 + m) (suc n) ≡ b
    by true h = let lt : m < n = ltb-true m n h in lt-ltb (1 + m) (suc n) (omega arith)
    by false h = let le : n ≤ m = ltb-false m n h in le-ltb (1 + m) (suc n) (omega arith)

pub position-cons : {X : Type 0} (p : X → Bool) (x : X) (xs : List X) → position p (x ∷ xs) ≡ cond (p x) (Some 0) (option_map (λ n. n + 1) (position p xs))
position-cons p x xs = by (p x)
  where
    shifted : (m : ℕ) (b : Bool) → cond b (Some (1 + m)) None ≡ option_map (λ n. n + 1) (cond b (Some m) None)
    shifted m true = ap Some (omega arith)
    shifted m false = refl

    by : (b : Bool) → cond (nat_lt (cond (not b) (1 + position_or_len p xs) 0) (suc (length xs))) (Some (cond (not b) (1 + position_or_len p xs) 0)) None ≡ cond b (Some 0) (option_map (λ n. n + 1) (position p xs))
    by true = ap (λ b. cond b (Some 0) None) (lt-ltb 0 (suc (length xs)) (omega arith))
    by false = ap (λ b. cond b (Some (1 + position_or_len p xs)) None) (one_less (position_or_len p xs) (length xs)) ∙ shifted (position_or_len p xs) (nat_lt (position_or_len p xs) (length xs))

pub position-push : {X : Type 0} (p : X → Bool) (xs : List X) (y : X) → position p (xs ++ y ∷ []) ≡ or_later (position p xs) (p y) (length xs)
position-push p [] y = position-cons p y [] ∙ by (p y)
  where
    by : (b : Bool) → cond {A = Option ℕ} b (Some 0) None ≡ or_later None b 0
    by true = refl
    by false = refl
position-push p (x ∷ xs) y =
    position-cons p x (xs ++ y ∷ []) ∙ ap (λ o. cond (p x) (Some 0) (option_map (λ n. n + 1) o)) (position-push p xs y) ∙ by (p x) (position p xs) ∙ ap (λ o. or_later o (p y) (length (x ∷ xs))) (sym (position-cons p x xs))
  where
    later : (b : Bool) → option_map (λ n. n + 1) (or_later None b (length xs)) ≡ or_later None b (suc (length xs))
    later true = ap Some (omega arith)
    later false = refl

    by : (b : Bool) (o : Option ℕ) → cond b (Some 0) (option_map (λ n. n + 1) (or_later o (p y) (length xs))) ≡ or_later (cond b (Some 0) (option_map (λ n. n + 1) o)) (p y) (suc (length xs))
    by true o = refl
    by false (Some n) = refl
    by false None = later (p y)

-- the first place among one item more
pub one_more_place : {X : Type 0} (p : X → Bool) (xs : List X) (i : ℕ) (x : X) (found : Option ℕ) → slice_get xs i ≡ Some x → found ≡ position p (take i xs)
    → or_later found (p x) i ≡ position p (take (i + 1) xs)
one_more_place p xs i x found at h =
    ap (λ f. or_later f (p x) i) h
    ∙ sym (ap (position p) (take_next xs i x at) ∙ position-push p (take i xs) x ∙ ap (or_later (position p (take i xs)) (p x)) (length_take xs i x at))

-- there is a first place exactly where an item passes
pub is_some_position : {X : Type 0} (p : X → Bool) (xs : List X) → is_some (position p xs) ≡ list_any p xs
is_some_position p [] = refl
is_some_position p (x ∷ xs) = ap is_some (position-cons p x xs) ∙ by (p x) (position p xs) ∙ ap (λ b. p x || b) (is_some_position p xs)
  where
    by : (b : Bool) (o : Option ℕ) → is_some (cond b (Some 0) (option_map (λ n. n + 1) o)) ≡ (b || is_some o)
    by true o = refl
    by false (Some n) = refl
    by false None = refl

-- where none passes there is none, and where there is one, one passes
pub none-place : {X : Type 0} (p : X → Bool) (xs : List X) → position p xs ≡ None → list_any p xs ≡ false
none-place p xs h = sym (is_some_position p xs) ∙ ap is_some h

pub some-place : {X : Type 0} (p : X → Bool) (xs : List X) (i : ℕ) → position p xs ≡ Some i → list_any p xs ≡ true
some-place p xs i h = sym (is_some_position p xs) ∙ ap is_some h

-- what the first passing item gives, among one item more
pub one_more_found : {X V : Type 0} (p : X → Bool) (f : X → V) (xs : List X) (i : ℕ) (x : X) → slice_get xs i ≡ Some x
    → or_later (option_map f (find p (take i xs))) (p x) (f x) ≡ option_map f (find p (take (i + 1) xs))
one_more_found {X} {V} p f xs i x at = sym (ap (λ l. option_map f (find p l)) (take_next xs i x at) ∙ pushed (take i xs))
  where
    pushed : (ys : List X) → option_map f (find p (ys ++ x ∷ [])) ≡ or_later (option_map f (find p ys)) (p x) (f x)
    pushed [] = by (p x)
      where
        by : (b : Bool) → option_map f (cond b (Some x) None) ≡ or_later None b (f x)
        by true = refl
        by false = refl
    pushed (y ∷ ys) = by (p y) (pushed ys)
      where
        by : (b : Bool) → option_map f (find p (ys ++ x ∷ [])) ≡ or_later (option_map f (find p ys)) (p x) (f x)
            → option_map f (cond b (Some y) (find p (ys ++ x ∷ []))) ≡ or_later (option_map f (cond b (Some y) (find p ys))) (p x) (f x)
        by true h = refl
        by false h = h

-- nothing more is found where the item doesn't pass
pub none_more_found : {X V : Type 0} (p : X → Bool) (f : X → V) (xs : List X) (i : ℕ) (x : X) → slice_get xs i ≡ Some x → p x ≡ false → option_map f (find p (take i xs)) ≡ option_map f (find p (take (i + 1) xs))
none_more_found p f xs i x at fails = sym (kept (option_map f (find p (take i xs))) (f x)) ∙ ap (λ b. or_later (option_map f (find p (take i xs))) b (f x)) (sym fails) ∙ one_more_found p f xs i x at
  where
    kept : {V : Type 0} (o : Option V) (v : V) → or_later o false v ≡ o
    kept None v = refl
    kept (Some w) v = refl
