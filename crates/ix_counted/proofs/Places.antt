-- Items of a list by their places.
use Rattle.std.proofs.Common.{◌≡◌, ◌≢◌, ℕ, zero, suc, ◌+◌, ◌<◌, ◌≤◌, ◌⊎◌, inl, inr, List, []}
use Rattle.std.proofs.Common.{◌∷◌, ◌++◌, length, take, slice_get, Option, Some, refl, sym}
use Rattle.std.proofs.Common.{ap, ◌∙◌, subst, arith}
use Rattle.std.specs.List.{slice_set}
use Rattle.std.proofs.lemmas.Option.{none-some, same_Some, slice_get_within}

pub same_or_not : (a b : ℕ) → (a ≡ b) ⊎ (a ≢ b)
same_or_not zero zero = inl refl
same_or_not zero (suc b) = inr (λ e. omega (arith, e))
same_or_not (suc a) zero = inr (λ e. omega (arith, e))
same_or_not (suc a) (suc b) = elim (same_or_not a b) [
  | inl e ↦ inl (ap suc e)
  | inr n ↦ inr (λ e. n (omega (arith, e)))
]

pub one_item : {X : Type 0} (o : Option X) (x y : X) → o ≡ Some x → o ≡ Some y → x ≡ y
one_item o x y e f = same_Some x y (sym e ∙ f)

pub get_within : {X : Type 0} (xs : List X) (i : ℕ) → i < length xs
    → (x : X) × (slice_get xs i ≡ Some x)
get_within [] i lt = absurd (omega arith)
get_within (x ∷ xs) zero lt = (x, refl)
get_within (x ∷ xs) (suc i) lt = get_within xs i (omega arith)

pub get_left : {X : Type 0} (xs ys : List X) (i : ℕ) (x : X) → slice_get xs i ≡ Some x
    → slice_get (xs ++ ys) i ≡ Some x
get_left [] ys i x e = absurd (none-some x e)
get_left (y ∷ xs) ys zero x e = e
get_left (y ∷ xs) ys (suc i) x e = get_left xs ys i x e

pub append_cases : {X : Type 0} (xs ys : List X) (i : ℕ) (x : X)
    → slice_get (xs ++ ys) i ≡ Some x
    → (slice_get xs i ≡ Some x) ⊎ ((j : ℕ) × (i ≡ length xs + j) × (slice_get ys j ≡ Some x))
append_cases [] ys i x e = inr (i, omega arith, e)
append_cases (y ∷ xs) ys zero x e = inl e
append_cases (y ∷ xs) ys (suc i) x e = elim (append_cases xs ys i x e) [
  | inl h ↦ inl h
  | inr h ↦ inr (h.0, omega (arith, h.1), h.2)
]

pub get_right : {X : Type 0} (xs ys : List X) (i j : ℕ) (x : X) → i ≡ length xs + j
    → slice_get ys j ≡ Some x → slice_get (xs ++ ys) i ≡ Some x
get_right [] ys i j x e at = subst (λ k. slice_get ys k ≡ Some x) (omega arith) at
get_right (y ∷ xs) ys zero j x e at = absurd (omega arith)
get_right (y ∷ xs) ys (suc i) j x e at = get_right xs ys i j x (omega arith) at

pub taken_get : {X : Type 0} (n : ℕ) (xs : List X) (i : ℕ) (x : X)
    → slice_get (take n xs) i ≡ Some x → (i < n) × (slice_get xs i ≡ Some x)
taken_get zero xs i x e = absurd (none-some x e)
taken_get (suc n) [] i x e = absurd (none-some x e)
taken_get (suc n) (y ∷ xs) zero x e = (omega arith, e)
taken_get (suc n) (y ∷ xs) (suc i) x e =
    let h : _ = taken_get n xs i x e in (omega (arith, h.0), h.1)

pub get_set_same : {X : Type 0} (xs : List X) (i : ℕ) (x : X) → i < length xs
    → slice_get (slice_set xs i x) i ≡ Some x
get_set_same [] i x below = absurd (omega arith)
get_set_same (y ∷ xs) zero x below = refl
get_set_same (y ∷ xs) (suc i) x below = get_set_same xs i x (omega arith)

pub get_set_other : {X : Type 0} (xs : List X) (i k : ℕ) (x : X) → k ≢ i
    → slice_get (slice_set xs i x) k ≡ slice_get xs k
get_set_other [] i k x other = refl
get_set_other (y ∷ xs) zero zero x other = absurd (other refl)
get_set_other (y ∷ xs) zero (suc k) x other = refl
get_set_other (y ∷ xs) (suc i) zero x other = refl
get_set_other (y ∷ xs) (suc i) (suc k) x other = get_set_other xs i k x (λ e. other (ap suc e))

pub length_set : {X : Type 0} (xs : List X) (i : ℕ) (x : X) → length (slice_set xs i x) ≡ length xs
length_set [] i x = refl
length_set (y ∷ xs) zero x = refl
length_set (y ∷ xs) (suc i) x = ap suc (length_set xs i x)

-- what stands in a list that was written in once
pub set_cases : {X : Type 0} (xs : List X) (i k : ℕ) (x y : X)
    → slice_get (slice_set xs i x) k ≡ Some y → ((k ≡ i) × (x ≡ y)) ⊎ ((k ≢ i) × (slice_get xs k ≡
    Some y))
set_cases xs i k x y e = elim (same_or_not k i) [
  | inl same ↦ inl (same, by same)
  | inr other ↦ inr (other, sym (get_set_other xs i k x other) ∙ e)
]
  where
    by : k ≡ i → x ≡ y
    by same = let at : slice_get (slice_set xs i x) i ≡ Some y = subst (λ j. slice_get (slice_set
        xs i x) j ≡ Some y) same e in
        let few : i < length (slice_set xs i x) = slice_get_within (slice_set xs i x) i y at in
        let same_length : length (slice_set xs i x) ≡ length xs = length_set xs i x in
        one_item (slice_get (slice_set xs i x) i) x y (get_set_same xs i x (omega arith)) at

-- Items that stand in a list, and lists whose items differ.

abbrev pub IsItem : {A : Type 0} → List A → A → Type 0
IsItem xs x = (i : ℕ) × (slice_get xs i ≡ Some x)

abbrev pub Differ : {A : Type 0} → List A → Type 0
Differ {A} xs = (i j : ℕ) (x : A) → slice_get xs i ≡ Some x → slice_get xs j ≡ Some x → i ≡ j

pub item_left : {A : Type 0} (xs ys : List A) (x : A) → IsItem xs x → IsItem (xs ++ ys) x
item_left xs ys x h = (h.0, get_left xs ys h.0 x h.1)

pub item_right : {A : Type 0} (xs ys : List A) (x : A) → IsItem ys x → IsItem (xs ++ ys) x
item_right xs ys x h = (length xs + h.0, get_right xs ys (length xs + h.0) h.0 x refl h.1)

pub item_cases : {A : Type 0} (xs ys : List A) (x : A) → IsItem (xs ++ ys) x
    → IsItem xs x ⊎ IsItem ys x
item_cases xs ys x h = elim (append_cases xs ys h.0 x h.1) [
  | inl left ↦ inl (h.0, left)
  | inr right ↦ inr (right.0, right.2)
]

pub differ_append : {A : Type 0} (xs ys : List A) → Differ xs → Differ ys
    → ((x : A) → IsItem xs x → IsItem ys x → ⊥) → Differ (xs ++ ys)
differ_append xs ys dx dy apart i j x ix jx = elim (append_cases xs ys i x ix) [
  | inl a ↦ elim (append_cases xs ys j x jx) [
    | inl b ↦ dx i j x a b
    | inr b ↦ absurd (apart x (i, a) (b.0, b.2))
  ]
  | inr a ↦ elim (append_cases xs ys j x jx) [
    | inl b ↦ absurd (apart x (j, b) (a.0, a.2))
    | inr b ↦ a.1 ∙ ap (λ k. length xs + k) (dy a.0 b.0 x a.2 b.2) ∙ sym b.1
  ]
]

pub differ_cons : {A : Type 0} (x : A) (xs : List A) → Differ xs → (IsItem xs x → ⊥)
    → Differ (x ∷ xs)
differ_cons x xs h new zero zero y a b = refl
differ_cons x xs h new zero (suc j) y a b = absurd (new (j, b ∙ sym a))
differ_cons x xs h new (suc i) zero y a b = absurd (new (i, a ∙ sym b))
differ_cons x xs h new (suc i) (suc j) y a b = ap suc (h i j y a b)

without : {A : Type 0} → ℕ → List A → List A
without n [] = []
without zero (x ∷ xs) = xs
without (suc n) (x ∷ xs) = x ∷ without n xs

without_item : {A : Type 0} (j k : ℕ) (ys : List A) (y : A) → k ≢ j → slice_get ys k ≡ Some y
    → IsItem (without j ys) y
unfolding without
without_item j k [] y n at = absurd (none-some y at)
without_item zero zero (x ∷ xs) y n at = absurd (n refl)
without_item zero (suc k) (x ∷ xs) y n at = (k, at)
without_item (suc j) zero (x ∷ xs) y n at = (0, at)
without_item (suc j) (suc k) (x ∷ xs) y n at =
    let h : IsItem (without j xs) y = without_item j k xs y (λ e. n (ap suc e)) at in
    (suc h.0, h.1)

without_length : {A : Type 0} (j : ℕ) (ys : List A) → j < length ys
    → length (without j ys) + 1 ≡ length ys
unfolding without
without_length j [] lt = absurd (omega arith)
without_length zero (x ∷ xs) lt = omega arith
without_length (suc j) (x ∷ xs) lt =
    let h : length (without j xs) + 1 ≡ length xs = without_length j xs (omega arith) in
    omega (arith, h)

-- items that differ are no more than those of a list in which they all stand
pub no_more : {A : Type 0} (xs ys : List A) → Differ xs → ((x : A) → IsItem xs x → IsItem ys x)
    → length xs ≤ length ys
no_more [] ys d h = omega arith
no_more (x ∷ xs) ys d h =
    let first : IsItem ys x = h x (0, refl) in
    let rest : length xs ≤ length (without first.0 ys) = no_more xs (without first.0 ys)
    (λ i j y a b. let e : suc i ≡ suc j = d (suc i) (suc j) y a b in omega (arith, e))
    (λ y is. let there : IsItem ys y = h y (suc is.0, is.1) in
    without_item first.0 there.0 ys y
    (λ same. let e : 0 ≡ suc is.0 = d 0 (suc is.0) y
    (let one : y ≡ x = one_item (slice_get ys first.0) y x
    (subst (λ k. slice_get ys k ≡ Some y) same there.1) first.1 in ap Some (sym one)) is.1 in
    omega (arith, e)) there.1) in
    let lt : first.0 < length ys = slice_get_within ys first.0 x first.1 in
    let many : length (without first.0 ys) + 1 ≡ length ys = without_length first.0 ys lt in
    omega (arith, rest, many)
