-- Items of lists by their places, tests, and paths that end in one step.
use Rattle.std.proofs.Common.{◌≡◌, ◌<◌, ◌≤◌, ◌+◌, ap, refl, sym, ◌∙◌, ℕ, zero, suc, List, [], ◌∷◌}
use Rattle.std.proofs.Common.{slice_get, Some, arith, take, length, ◌++◌, ◌⊎◌, inl, inr}
use Rattle.std.proofs.Common.{map, cond, Bool, true, false, ◌&&◌, ◌||◌}
use Rattle.std.specs.List.{list_any, count_by, sum_by, range_with_len}
use Rattle.std.proofs.lemmas.Bool.{false≢true}
use Rattle.std.proofs.lemmas.Option.{none-some, same_Some, slice_get_within, slice_get-get_or}
use Rattle.std.proofs.lemmas.List.FromFn.{get_or-map-range_with_len, length-map-range_with_len}
use Rattle.std.proofs.lemmas.List.Sums.{sum_by-cons}

-- what stands in the first of two lists, and in the second
pub in_first : {A : Type 0} (xs ys : List A) (k : ℕ) (x : A) → slice_get xs k ≡ Some x
    → slice_get (xs ++ ys) k ≡ Some x
in_first [] ys k x h = absurd (none-some x h)
in_first (y ∷ xs) ys zero x h = h
in_first (y ∷ xs) ys (suc k) x h = in_first xs ys k x h

-- which of both it is
pub in_either : {A : Type 0} (xs ys : List A) (k : ℕ) (x : A) → slice_get (xs ++ ys) k ≡ Some x
    → (slice_get xs k ≡ Some x)
    ⊎ ((j : ℕ) × (k ≡ length xs + j) × (slice_get ys j ≡ Some x))
in_either [] ys k x h = let e : k ≡ 0 + k = omega arith in inr (k, e, h)
in_either (y ∷ xs) ys zero x h = inl h
in_either (y ∷ xs) ys (suc k) x h = elim (in_either xs ys k x h) [
  | inl first ↦ inl first
  | inr second ↦ let e : suc k ≡ suc (length xs) + second.0 =
      let f : k ≡ length xs + second.0 = second.1 in omega arith in
      inr (second.0, e, second.2)
]

-- an item of a list that a function makes
pub made_at : {A : Type 0} (f : ℕ → A) (n k : ℕ) (x : A)
    → slice_get (map f (range_with_len 0 n)) k ≡ Some x → (k < n) × (x ≡ f k)
made_at f n k x h =
    let long : length (map f (range_with_len 0 n)) ≡ n = length-map-range_with_len f 0 n in
    let lt : k < length (map f (range_with_len 0 n)) =
    slice_get_within (map f (range_with_len 0 n)) k x h in
    let less : k < n = omega arith in (
      less,
      same_Some x (f k) (sym h ∙ slice_get-get_or (map f (range_with_len 0 n)) k x lt
          ∙ ap Some (get_or-map-range_with_len f 0 n k k x less (omega arith))),
    )

-- what is at a place of a list that was made of another
pub mapped : {A B : Type 0} (f : A → B) (xs : List A) (k : ℕ) (y : B)
    → slice_get (map f xs) k ≡ Some y → (x : A) × (slice_get xs k ≡ Some x) × (f x ≡ y)
mapped f [] k y h = absurd (none-some y h)
mapped f (x ∷ xs) zero y h = (x, refl, same_Some (f x) y h)
mapped f (x ∷ xs) (suc k) y h = mapped f xs k y h

pub both_true : (a b : Bool) → (a && b) ≡ true → (a ≡ true) × (b ≡ true)
both_true true b h = (refl, h)
both_true false b h = absurd (false≢true h)

-- what passes is there
pub any_there : {A : Type 0} (p : A → Bool) (xs : List A) → list_any p xs ≡ true
    → (k : ℕ) × (x : A) × (slice_get xs k ≡ Some x) × (p x ≡ true)
any_there p [] h = absurd (false≢true h)
any_there {A} p (x ∷ xs) h = by (p x) refl h (any_there p xs)
  where
    by : (b : Bool) → p x ≡ b → (b || list_any p xs) ≡ true
        → (list_any p xs ≡ true
        → (k : ℕ) × (y : A) × (slice_get xs k ≡ Some y) × (p y ≡ true))
        → (k : ℕ) × (y : A) × (slice_get (x ∷ xs) k ≡ Some y) × (p y ≡ true)
    by true e h again = (0, x, refl, e)
    by false e h again = let more = again h in (suc more.0, more.1, more.2, more.3)

pub none_last : {A : Type 0} (xs : List A) (x : A) → [] ≡ xs ++ x ∷ [] → ⊥
none_last [] x e = absurd (cc)
none_last (y ∷ xs) x e = absurd (cc)

-- the last step and what is before it
pub same_last : {A : Type 0} (xs ys : List A) (x y : A) → xs ++ x ∷ [] ≡ ys ++ y ∷ []
    → (xs ≡ ys) × (x ≡ y)
same_last [] [] x y e = let h : x ≡ y = cc in (refl, h)
same_last [] (b ∷ ys) x y e = let h : [] ≡ ys ++ y ∷ [] = cc in absurd (none_last ys y h)
same_last (a ∷ xs) [] x y e = let h : [] ≡ xs ++ x ∷ [] = cc in absurd (none_last xs x h)
same_last (a ∷ xs) (b ∷ ys) x y e =
    let rest : xs ++ x ∷ [] ≡ ys ++ y ∷ [] = cc in
    let first : a ≡ b = cc in
    let more = same_last xs ys x y rest in
    let both : a ∷ xs ≡ b ∷ ys = let h : xs ≡ ys = more.0 in cc in
    (both, more.1)

-- sums and counts
pub sum_same : {A : Type 0} (f g : A → ℕ) (xs : List A) → ((x : A) → f x ≡ g x)
    → sum_by f xs ≡ sum_by g xs
sum_same f g [] h = refl
sum_same f g (x ∷ xs) h =
    let e : f x ≡ g x = h x in
    let rest : sum_by f xs ≡ sum_by g xs = sum_same f g xs h in
    let a : sum_by f (x ∷ xs) ≡ f x + sum_by f xs = sum_by-cons f x xs in
    let b : sum_by g (x ∷ xs) ≡ g x + sum_by g xs = sum_by-cons g x xs in omega arith

abbrev pub one_if : Bool → ℕ
one_if true = 1
one_if false = 0

pub count_cons : {A : Type 0} (p : A → Bool) (x : A) (xs : List A)
    → count_by p (x ∷ xs) ≡ one_if (p x) + count_by p xs
count_cons {A} p x xs = sum_by-cons (λ y. cond (p y) 1 0) x xs ∙ by (p x)
  where
    by : (b : Bool) → cond b 1 0 + count_by p xs ≡ one_if b + count_by p xs
    by true = refl
    by false = refl

-- where each passes, all count
pub all_count : {A : Type 0} (p : A → Bool) (xs : List A)
    → ((i : ℕ) (x : A) → slice_get xs i ≡ Some x → p x ≡ true) → (k : ℕ) → k ≤ length xs
    → count_by p (take k xs) ≡ k
all_count p xs h zero le = refl
all_count p [] h (suc k) le = absurd (omega arith)
all_count p (x ∷ xs) h (suc k) le =
    let first : one_if (p x) ≡ 1 = ap one_if (h 0 x refl) in
    let rest : count_by p (take k xs) ≡ k =
    all_count p xs (λ i y at. h (suc i) y at) k (omega arith) in
    let a : count_by p (x ∷ take k xs) ≡ one_if (p x) + count_by p (take k xs) =
    count_cons p x (take k xs) in
    let e : count_by p (x ∷ take k xs) ≡ suc k = omega arith in e

-- where none passes, none counts
pub none_count : {A : Type 0} (p : A → Bool) (xs : List A)
    → ((i : ℕ) (x : A) → slice_get xs i ≡ Some x → p x ≡ false) → count_by p xs ≡ 0
none_count p [] h = refl
none_count p (x ∷ xs) h =
    let first : one_if (p x) ≡ 0 = ap one_if (h 0 x refl) in
    let rest : count_by p xs ≡ 0 = none_count p xs (λ i y at. h (suc i) y at) in
    let a : count_by p (x ∷ xs) ≡ one_if (p x) + count_by p xs = count_cons p x xs in omega arith

-- what stands at a place is within the sum up to a later one
pub sum_before : {A : Type 0} (f : A → ℕ) (xs : List A) (p q : ℕ) (x : A)
    → slice_get xs p ≡ Some x → p < q → sum_by f (take p xs) + f x ≤ sum_by f (take q xs)
sum_before f [] p q x at less = absurd (none-some x at)
sum_before f (y ∷ xs) p zero x at less = absurd (omega arith)
sum_before f (y ∷ xs) zero (suc q) x at less =
    let same : f y ≡ f x = ap f (same_Some y x at) in
    let a : sum_by f (y ∷ take q xs) ≡ f y + sum_by f (take q xs) = sum_by-cons f y (take q xs) in
    let none : sum_by f [] ≡ 0 = refl in
    let e : sum_by f [] + f x ≤ sum_by f (y ∷ take q xs) = omega arith in e
sum_before f (y ∷ xs) (suc p) (suc q) x at less =
    let rest : sum_by f (take p xs) + f x ≤ sum_by f (take q xs) =
    sum_before f xs p q x at (omega arith) in
    let a : sum_by f (y ∷ take p xs) ≡ f y + sum_by f (take p xs) = sum_by-cons f y (take p xs) in
    let b : sum_by f (y ∷ take q xs) ≡ f y + sum_by f (take q xs) = sum_by-cons f y (take q xs) in
    let e : sum_by f (y ∷ take p xs) + f x ≤ sum_by f (y ∷ take q xs) = omega arith in e
