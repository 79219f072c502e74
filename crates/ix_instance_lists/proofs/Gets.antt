-- Elements of lists by place.
use Rattle.std.proofs.Common.{◌≡◌, ◌⊎◌, ◌<◌, ◌∙◌, ℕ, suc, zero, List, [], ◌∷◌, ◌++◌, length}
use Rattle.std.proofs.Common.{Some, slice_get, ap, refl, inl, inr, arith, Contains}
use Rattle.std.proofs.lemmas.Option.{slice_get-get_or, slice_get_within, get_or_from_slice_get}

pub gets_left : {X : Type 0} → (xs ys : List X) (i : ℕ) (x : X) → slice_get xs i ≡ Some x
    → slice_get (xs ++ ys) i ≡ Some x
gets_left [] ys i x h = cc
gets_left (y ∷ xs) ys zero x h = h
gets_left (y ∷ xs) ys (suc i) x h = gets_left xs ys i x h

pub gets_last : {X : Type 0} → (xs : List X) (y : X) → slice_get (xs ++ y ∷ []) (length xs) ≡ Some y
gets_last [] y = refl
gets_last (x ∷ xs) y = gets_last xs y

pub gets_cases : {X : Type 0} → (xs : List X) (y : X) (i : ℕ) (x : X)
    → slice_get (xs ++ y ∷ []) i ≡ Some x
    → (slice_get xs i ≡ Some x) ⊎ ((i ≡ length xs) × (y ≡ x))
gets_cases [] y zero x h = inr (refl, cc)
gets_cases [] y (suc i) x h = absurd cc
gets_cases (z ∷ xs) y zero x h = inl h
gets_cases (z ∷ xs) y (suc i) x h = elim (gets_cases xs y i x h) [
  | inl w ↦ inl w
  | inr w ↦ inr (ap suc w.0, w.1)
]

-- at a place within there is one
pub gets_at : {X : Type 0} → (xs : List X) (i : ℕ) → i < length xs
    → (x : X) × (slice_get xs i ≡ Some x)
gets_at [] i few = absurd (omega arith)
gets_at (x ∷ xs) zero few = (x, refl)
gets_at (x ∷ xs) (suc i) few = gets_at xs i (omega arith)

pub contains_at : {X : Type 0} → (xs : List X) (x : X) → Contains xs x
    → (i : ℕ) × (slice_get xs i ≡ Some x)
contains_at xs x (i, few, is) = (i, slice_get-get_or xs i x few ∙ ap Some is)

pub at_contains : {X : Type 0} → (xs : List X) (x : X) (i : ℕ) → slice_get xs i ≡ Some x
    → Contains xs x
at_contains xs x i h = (i, slice_get_within xs i x h, get_or_from_slice_get xs i x x h)
