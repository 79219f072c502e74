-- Items of lists by their places, and what is told of what may be there.
use Rattle.std.proofs.Common.{◌≡◌, ◌≢◌, ◌⊎◌, ◌<◌, ◌+◌, ◌∙◌, refl, ap, ℕ, zero, suc, arith}
use Rattle.std.proofs.Common.{inl, inr, List, [], ◌∷◌, ◌++◌, length, take, set, slice_get}
use Rattle.std.proofs.Common.{Option, Some, None, option_map, option_and_then}
use Rattle.std.proofs.lemmas.Option.{none-some, same_Some}

-- Of what is told of what may be there.

pub mapped : {A B : Type 0} (f : A → B) (o : Option A) (y : B) → option_map f o ≡ Some y
    → (x : A) × (o ≡ Some x) × (f x ≡ y)
mapped f None y e = absurd (none-some y e)
mapped f (Some x) y e = (x, refl, same_Some (f x) y e)

pub chained : {A B : Type 0} (f : A → Option B) (o : Option A) (y : B)
    → option_and_then f o ≡ Some y → (x : A) × (o ≡ Some x) × (f x ≡ Some y)
chained f None y e = absurd (none-some y e)
chained f (Some x) y e = (x, refl, e)

-- of two lists in one

pub from_both : {A : Type 0} (xs ys : List A) (k : ℕ) (x : A) → slice_get (xs ++ ys) k ≡ Some x
    → (slice_get xs k ≡ Some x)
    ⊎ ((j : ℕ) × (k ≡ length xs + j) × (slice_get ys j ≡ Some x))
from_both [] ys k x h = inr (k, omega arith, h)
from_both (z ∷ xs) ys zero x h = inl h
from_both (z ∷ xs) ys (suc k) x h = elim (from_both xs ys k x h) [
  | inl first ↦ inl first
  | inr second ↦
      let e : k ≡ length xs + second.0 = second.1 in
      inr (second.0, omega arith, second.2)
]

pub into_first : {A : Type 0} (xs ys : List A) (k : ℕ) (x : A) → slice_get xs k ≡ Some x
    → slice_get (xs ++ ys) k ≡ Some x
into_first [] ys k x h = absurd (none-some x h)
into_first (z ∷ xs) ys zero x h = h
into_first (z ∷ xs) ys (suc k) x h = into_first xs ys k x h

pub into_second : {A : Type 0} (xs ys : List A) (k j : ℕ) (x : A) → k ≡ length xs + j
    → slice_get ys j ≡ Some x → slice_get (xs ++ ys) k ≡ Some x
into_second [] ys k j x e h = ap (slice_get ys) (omega arith) ∙ h
into_second (z ∷ xs) ys zero j x e h = absurd (omega arith)
into_second (z ∷ xs) ys (suc k) j x e h = into_second xs ys k j x (omega arith) h

-- of the first ones, and of a list with another item at a place

pub taken_before : {A : Type 0} (xs : List A) (n k : ℕ) (x : A) → k < n → slice_get xs k ≡ Some x
    → slice_get (take n xs) k ≡ Some x
taken_before [] n k x lt h = absurd (none-some x h)
taken_before (y ∷ xs) zero k x lt h = absurd (omega arith)
taken_before (y ∷ xs) (suc n) zero x lt h = h
taken_before (y ∷ xs) (suc n) (suc k) x lt h = taken_before xs n k x (omega arith) h

pub set_here : {A : Type 0} (xs : List A) (i : ℕ) (y : A) → i < length xs
    → slice_get (set xs i y) i ≡ Some y
set_here [] i y lt = absurd (omega arith)
set_here (x ∷ xs) zero y lt = refl
set_here (x ∷ xs) (suc i) y lt = set_here xs i y (omega arith)

pub set_other : {A : Type 0} (xs : List A) (i q : ℕ) (y : A) → i ≢ q
    → slice_get (set xs i y) q ≡ slice_get xs q
set_other [] i q y differ = refl
set_other (x ∷ xs) zero zero y differ = absurd (differ refl)
set_other (x ∷ xs) zero (suc q) y differ = refl
set_other (x ∷ xs) (suc i) zero y differ = refl
set_other (x ∷ xs) (suc i) (suc q) y differ = set_other xs i q y (λ e. differ (ap suc e))
