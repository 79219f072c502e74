-- Items of lists by their places: of maps, of filters, and of two lists in one.
use Rattle.std.proofs.Common.{◌≡◌, ◌⊎◌, ◌<◌, ◌+◌, ◌∙◌, ap, refl, sym, ℕ, zero, suc, List, []}
use Rattle.std.proofs.Common.{◌∷◌, ◌++◌, map, slice_get, Option, Some, None, length, inl, inr, arith}
use Rattle.std.proofs.Common.{Bool, true, false, cond}
use Rattle.std.specs.List.{filter}
use Rattle.std.specs.Option.{option_map}
use Rattle.std.proofs.lemmas.Option.{none-some, same_Some, slice_get-map}

pub mapped : {A B : Type 0} (f : A → B) (o : Option A) (y : B) → option_map f o ≡ Some y
    → (x : A) × (o ≡ Some x) × (f x ≡ y)
mapped f None y e = absurd (none-some y e)
mapped f (Some x) y e = (x, refl, same_Some (f x) y e)

-- an item of a map
pub from_map : {A B : Type 0} (f : A → B) (xs : List A) (k : ℕ) (y : B)
    → slice_get (map f xs) k ≡ Some y → (x : A) × (slice_get xs k ≡ Some x) × (f x ≡ y)
from_map f xs k y h = mapped f (slice_get xs k) y (sym (slice_get-map f xs k) ∙ h)

pub into_map : {A B : Type 0} (f : A → B) (xs : List A) (k : ℕ) (x : A)
    → slice_get xs k ≡ Some x → slice_get (map f xs) k ≡ Some (f x)
into_map f xs k x h = slice_get-map f xs k ∙ ap (option_map f) h

-- an item of two lists in one
pub from_both : {A : Type 0} (xs ys : List A) (k : ℕ) (x : A) → slice_get (xs ++ ys) k ≡ Some x
    → (slice_get xs k ≡ Some x)
    ⊎ ((j : ℕ) × (k ≡ length xs + j) × (slice_get ys j ≡ Some x))
from_both [] ys k x h = inr (k, omega arith, h)
from_both (z ∷ xs) ys zero x h = inl h
from_both (z ∷ xs) ys (suc k) x h = elim (from_both xs ys k x h) [
  | inl first ↦ inl first
  | inr second ↦
      let e : k ≡ length xs + second.0 = second.1 in
      inr (second.0, omega arith, second.2)
]

pub into_first : {A : Type 0} (xs ys : List A) (k : ℕ) (x : A) → slice_get xs k ≡ Some x
    → slice_get (xs ++ ys) k ≡ Some x
into_first [] ys k x h = absurd (none-some x h)
into_first (z ∷ xs) ys zero x h = h
into_first (z ∷ xs) ys (suc k) x h = into_first xs ys k x h

pub into_second : {A : Type 0} (xs ys : List A) (k j : ℕ) (x : A) → k ≡ length xs + j
    → slice_get ys j ≡ Some x → slice_get (xs ++ ys) k ≡ Some x
into_second [] ys k j x e h = ap (slice_get ys) (omega arith) ∙ h
into_second (z ∷ xs) ys zero j x e h = absurd (omega arith)
into_second (z ∷ xs) ys (suc k) j x e h = into_second xs ys k j x (omega arith) h

-- Items of a filter.

filter_yes : {A : Type 0} (f : A → Bool) (x : A) (xs : List A) → f x ≡ true
    → filter f (x ∷ xs) ≡ x ∷ filter f xs
filter_yes f x xs e = ap (λ b. cond b (x ∷ filter f xs) (filter f xs)) e

filter_no : {A : Type 0} (f : A → Bool) (x : A) (xs : List A) → f x ≡ false
    → filter f (x ∷ xs) ≡ filter f xs
filter_no f x xs e = ap (λ b. cond b (x ∷ filter f xs) (filter f xs)) e

-- one passes, at this place
pub record IsPassed {A : Type 0} (f : A → Bool) (xs : List A) (x : A) : Type 0 where
  pub place : ℕ
  pub is : slice_get xs place ≡ Some x
  pub passes : f x ≡ true

pub from_filter : {A : Type 0} (f : A → Bool) (xs : List A) (k : ℕ) (x : A)
    → slice_get (filter f xs) k ≡ Some x → IsPassed f xs x
from_filter f [] k x h = absurd (none-some x h)
from_filter {A = A} f (y ∷ xs) k x h = by (from_filter f xs) (f y) refl k h
  where
    later : IsPassed f xs x → IsPassed f (y ∷ xs) x
    later p = record { place = suc p.place; is = p.is; passes = p.passes }

    first : ((k : ℕ) (x : A) → slice_get (filter f xs) k ≡ Some x → IsPassed f xs x)
        → f y ≡ true → (k : ℕ) → slice_get (y ∷ filter f xs) k ≡ Some x → IsPassed f (y ∷ xs) x
    first more e zero h =
        record { place = 0; is = h; passes = ap f (sym (same_Some y x h)) ∙ e }
    first more e (suc k) h = later (more k x h)

    by : ((k : ℕ) (x : A) → slice_get (filter f xs) k ≡ Some x → IsPassed f xs x)
        → (b : Bool) → f y ≡ b → (k : ℕ) → slice_get (filter f (y ∷ xs)) k ≡ Some x
        → IsPassed f (y ∷ xs) x
    by more true e k h =
        first more e k (ap (λ l. slice_get l k) (sym (filter_yes f y xs e)) ∙ h)
    by more false e k h = later (more k x (ap (λ l. slice_get l k) (sym (filter_no f y xs e)) ∙ h))

pub into_filter : {A : Type 0} (f : A → Bool) (xs : List A) (i : ℕ) (x : A)
    → slice_get xs i ≡ Some x → f x ≡ true → (k : ℕ) × (slice_get (filter f xs) k ≡ Some x)
into_filter f [] i x h p = absurd (none-some x h)
into_filter f (y ∷ xs) zero x h p =
    (0, ap (λ l. slice_get l 0) (filter_yes f y xs (ap f (same_Some y x h) ∙ p)) ∙ h)
into_filter f (y ∷ xs) (suc i) x h p = by (into_filter f xs i x h p) (f y) refl
  where
    by : (k : ℕ) × (slice_get (filter f xs) k ≡ Some x) → (b : Bool) → f y ≡ b
        → (k : ℕ) × (slice_get (filter f (y ∷ xs)) k ≡ Some x)
    by rest true e = (suc rest.0, ap (λ l. slice_get l (suc rest.0)) (filter_yes f y xs e) ∙ rest.1)
    by rest false e = (rest.0, ap (λ l. slice_get l rest.0) (filter_no f y xs e) ∙ rest.1)

-- two that pass, in their order
pub record AreInOrder {A : Type 0} (xs : List A) (a b : A) : Type 0 where
  pub first : ℕ
  pub second : ℕ
  pub less : first < second
  pub first_is : slice_get xs first ≡ Some a
  pub second_is : slice_get xs second ≡ Some b

pub filter_order : {A : Type 0} (f : A → Bool) (xs : List A) (j k : ℕ) (a b : A) → j < k
    → slice_get (filter f xs) j ≡ Some a → slice_get (filter f xs) k ≡ Some b → AreInOrder xs a b
filter_order f [] j k a b lt x y = absurd (none-some a x)
filter_order {A = A} f (z ∷ xs) j k a b lt x y = by (filter_order f xs) (f z) refl
  where
    later : AreInOrder xs a b → AreInOrder (z ∷ xs) a b
    later o =
        let less : o.first < o.second = o.less in
        record {
          first = suc o.first;
          second = suc o.second;
          less = omega arith;
          first_is = o.first_is;
          second_is = o.second_is;
        }

    both : ((j k : ℕ) (a b : A) → j < k → slice_get (filter f xs) j ≡ Some a
        → slice_get (filter f xs) k ≡ Some b → AreInOrder xs a b) → (j k : ℕ) → j < k
        → slice_get (z ∷ filter f xs) j ≡ Some a → slice_get (z ∷ filter f xs) k ≡ Some b
        → AreInOrder (z ∷ xs) a b
    both more zero zero lt x y = absurd (omega arith)
    both more zero (suc k) lt x y =
        let rest : IsPassed f xs b = from_filter f xs k b y in
        record {
          first = 0;
          second = suc rest.place;
          less = omega arith;
          first_is = x;
          second_is = rest.is;
        }
    both more (suc j) zero lt x y = absurd (omega arith)
    both more (suc j) (suc k) lt x y = later (more j k a b (omega arith) x y)

    by : ((j k : ℕ) (a b : A) → j < k → slice_get (filter f xs) j ≡ Some a
        → slice_get (filter f xs) k ≡ Some b → AreInOrder xs a b) → (t : Bool) → f z ≡ t
        → AreInOrder (z ∷ xs) a b
    by more true e = both more j k lt (ap (λ l. slice_get l j) (sym (filter_yes f z xs e)) ∙ x)
        (ap (λ l. slice_get l k) (sym (filter_yes f z xs e)) ∙ y)
    by more false e = later (more j k a b lt
        (ap (λ l. slice_get l j) (sym (filter_no f z xs e)) ∙ x)
        (ap (λ l. slice_get l k) (sym (filter_no f z xs e)) ∙ y))
