-- Items of a list by their places.
use Rattle.std.proofs.Common.{◌≡◌, ◌≢◌, ℕ, zero, suc, ◌+◌, ◌<◌, ◌≤◌, ◌⊎◌, inl, inr, List, []}
use Rattle.std.proofs.Common.{◌∷◌, ◌++◌, length, take, slice_get, Option, Some, refl, sym}
use Rattle.std.proofs.Common.{ap, ◌∙◌, subst, arith}
use Rattle.std.specs.List.{slice_set}
use Rattle.std.proofs.lemmas.Option.{none-some, same_Some, slice_get_within}

pub same_or_not : (a b : ℕ) → (a ≡ b) ⊎ (a ≢ b)
same_or_not zero zero = inl refl
same_or_not zero (suc b) = inr (λ e. omega (arith, e))
same_or_not (suc a) zero = inr (λ e. omega (arith, e))
same_or_not (suc a) (suc b) = elim (same_or_not a b) [
  | inl e ↦ inl (ap suc e)
  | inr n ↦ inr (λ e. n (omega (arith, e)))
]

pub below_or_not : (a b : ℕ) → (a < b) ⊎ (b ≤ a)
below_or_not a zero = inr (omega arith)
below_or_not zero (suc b) = inl (omega arith)
below_or_not (suc a) (suc b) = elim (below_or_not a b) [
  | inl e ↦ inl (omega (arith, e))
  | inr n ↦ inr (omega (arith, n))
]

pub one_item : {X : Type 0} (o : Option X) (x y : X) → o ≡ Some x → o ≡ Some y → x ≡ y
one_item o x y e f = same_Some x y (sym e ∙ f)

pub get_within : {X : Type 0} (xs : List X) (i : ℕ) → i < length xs
    → (x : X) × (slice_get xs i ≡ Some x)
get_within [] i lt = absurd (omega arith)
get_within (x ∷ xs) zero lt = (x, refl)
get_within (x ∷ xs) (suc i) lt = get_within xs i (omega arith)

pub get_left : {X : Type 0} (xs ys : List X) (i : ℕ) (x : X) → slice_get xs i ≡ Some x
    → slice_get (xs ++ ys) i ≡ Some x
get_left [] ys i x e = absurd (none-some x e)
get_left (y ∷ xs) ys zero x e = e
get_left (y ∷ xs) ys (suc i) x e = get_left xs ys i x e

pub get_push : {X : Type 0} (xs : List X) (x : X) (i : ℕ) → i ≡ length xs
    → slice_get (xs ++ x ∷ []) i ≡ Some x
get_push [] x zero e = refl
get_push [] x (suc i) e = absurd (omega arith)
get_push (y ∷ xs) x zero e = absurd (omega arith)
get_push (y ∷ xs) x (suc i) e = get_push xs x i (omega arith)

pub append_cases : {X : Type 0} (xs ys : List X) (i : ℕ) (x : X)
    → slice_get (xs ++ ys) i ≡ Some x
    → (slice_get xs i ≡ Some x) ⊎ ((j : ℕ) × (i ≡ length xs + j) × (slice_get ys j ≡ Some x))
append_cases [] ys i x e = inr (i, omega arith, e)
append_cases (y ∷ xs) ys zero x e = inl e
append_cases (y ∷ xs) ys (suc i) x e = elim (append_cases xs ys i x e) [
  | inl h ↦ inl h
  | inr h ↦ inr (h.0, omega (arith, h.1), h.2)
]

pub get_right : {X : Type 0} (xs ys : List X) (i j : ℕ) (x : X) → i ≡ length xs + j
    → slice_get ys j ≡ Some x → slice_get (xs ++ ys) i ≡ Some x
get_right [] ys i j x e at = subst (λ k. slice_get ys k ≡ Some x) (omega arith) at
get_right (y ∷ xs) ys zero j x e at = absurd (omega arith)
get_right (y ∷ xs) ys (suc i) j x e at = get_right xs ys i j x (omega arith) at

pub push_cases : {X : Type 0} (xs : List X) (y : X) (i : ℕ) (x : X)
    → slice_get (xs ++ y ∷ []) i ≡ Some x
    → (slice_get xs i ≡ Some x) ⊎ ((i ≡ length xs) × (y ≡ x))
push_cases [] y zero x e = inr (refl, same_Some y x e)
push_cases [] y (suc i) x e = absurd (none-some x e)
push_cases (z ∷ xs) y zero x e = inl e
push_cases (z ∷ xs) y (suc i) x e = elim (push_cases xs y i x e) [
  | inl h ↦ inl h
  | inr h ↦ inr (ap suc h.0, h.1)
]

pub length_push : {X : Type 0} (xs : List X) (x : X) → length (xs ++ x ∷ []) ≡ length xs + 1
length_push [] x = refl
length_push (y ∷ xs) x = let e : _ = length_push xs x in omega (arith, e)

pub get_taken : {X : Type 0} (n : ℕ) (xs : List X) (i : ℕ) (x : X) → i < n
    → slice_get xs i ≡ Some x → slice_get (take n xs) i ≡ Some x
get_taken n [] i x lt e = absurd (none-some x e)
get_taken zero (y ∷ xs) i x lt e = absurd (omega arith)
get_taken (suc n) (y ∷ xs) zero x lt e = e
get_taken (suc n) (y ∷ xs) (suc i) x lt e = get_taken n xs i x (omega arith) e

pub taken_get : {X : Type 0} (n : ℕ) (xs : List X) (i : ℕ) (x : X)
    → slice_get (take n xs) i ≡ Some x → (i < n) × (slice_get xs i ≡ Some x)
taken_get zero xs i x e = absurd (none-some x e)
taken_get (suc n) [] i x e = absurd (none-some x e)
taken_get (suc n) (y ∷ xs) zero x e = (omega arith, e)
taken_get (suc n) (y ∷ xs) (suc i) x e =
    let h : _ = taken_get n xs i x e in (omega (arith, h.0), h.1)

pub take_left : {X : Type 0} (n : ℕ) (xs ys : List X) → n ≤ length xs
    → take n (xs ++ ys) ≡ take n xs
take_left zero xs ys le = refl
take_left (suc n) [] ys le = absurd (omega arith)
take_left (suc n) (x ∷ xs) ys le = ap (λ l. x ∷ l) (take_left n xs ys (omega arith))

pub take_all : {X : Type 0} (n : ℕ) (xs : List X) → length xs ≤ n → take n xs ≡ xs
take_all zero [] le = refl
take_all zero (x ∷ xs) le = absurd (omega arith)
take_all (suc n) [] le = refl
take_all (suc n) (x ∷ xs) le = ap (λ l. x ∷ l) (take_all n xs (omega arith))

pub length_take : {X : Type 0} (n : ℕ) (xs : List X) → n ≤ length xs → length (take n xs) ≡ n
length_take zero xs le = refl
length_take (suc n) [] le = absurd (omega arith)
length_take (suc n) (x ∷ xs) le = ap suc (length_take n xs (omega arith))

-- what was pushed last is taken off again
pub take_pushed : {X : Type 0} (xs : List X) (x : X) (n : ℕ) → n ≡ length xs
    → take n (xs ++ x ∷ []) ≡ xs
take_pushed xs x n e = take_left n xs (x ∷ []) (omega arith) ∙ take_all n xs (omega arith)

pub get_set_same : {X : Type 0} (xs : List X) (i : ℕ) (x : X) → i < length xs
    → slice_get (slice_set xs i x) i ≡ Some x
get_set_same [] i x below = absurd (omega arith)
get_set_same (y ∷ xs) zero x below = refl
get_set_same (y ∷ xs) (suc i) x below = get_set_same xs i x (omega arith)

pub get_set_other : {X : Type 0} (xs : List X) (i k : ℕ) (x : X) → k ≢ i
    → slice_get (slice_set xs i x) k ≡ slice_get xs k
get_set_other [] i k x other = refl
get_set_other (y ∷ xs) zero zero x other = absurd (other refl)
get_set_other (y ∷ xs) zero (suc k) x other = refl
get_set_other (y ∷ xs) (suc i) zero x other = refl
get_set_other (y ∷ xs) (suc i) (suc k) x other = get_set_other xs i k x (λ e. other (ap suc e))

pub length_set : {X : Type 0} (xs : List X) (i : ℕ) (x : X) → length (slice_set xs i x) ≡ length xs
length_set [] i x = refl
length_set (y ∷ xs) zero x = refl
length_set (y ∷ xs) (suc i) x = ap suc (length_set xs i x)

-- what stands in a list that was written in once
pub set_cases : {X : Type 0} (xs : List X) (i k : ℕ) (x y : X)
    → slice_get (slice_set xs i x) k ≡ Some y → ((k ≡ i) × (x ≡ y)) ⊎ ((k ≢ i) × (slice_get xs k ≡
    Some y))
set_cases xs i k x y e = elim (same_or_not k i) [
  | inl same ↦ inl (same, by same)
  | inr other ↦ inr (other, sym (get_set_other xs i k x other) ∙ e)
]
  where
    by : k ≡ i → x ≡ y
    by same = let at : slice_get (slice_set xs i x) i ≡ Some y = subst (λ j. slice_get (slice_set
        xs i x) j ≡ Some y) same e in
        let few : i < length (slice_set xs i x) = slice_get_within (slice_set xs i x) i y at in
        let same_length : length (slice_set xs i x) ≡ length xs = length_set xs i x in
        one_item (slice_get (slice_set xs i x) i) x y (get_set_same xs i x (omega arith)) at
