-- Walks over lists by place.
use Rattle.std.proofs.Common.{◌≡◌, refl, ap, subst, ◌∙◌, ℕ, zero, suc, ◌+◌, ◌<◌, List, [], ◌∷◌, ◌++◌, take, length, slice_get, Some, arith}
use Rattle.std.specs.List.{AllByRecursion}
use Rattle.std.proofs.lemmas.Option.{same_Some, none-some, slice_get_within, get_or_from_slice_get}
use Rattle.std.proofs.lemmas.List.{take_more, length-take-le}

-- the first i + 1 items are the first i and the next
pub take_next : {A : Type 0} (xs : List A) (i : ℕ) (x : A) → slice_get xs i ≡ Some x → take (i + 1) xs ≡ take i xs ++ x ∷ []
take_next xs i x h = take_more xs i x (slice_get_within xs i x h) ∙ ap (λ y. take i xs ++ y ∷ []) (get_or_from_slice_get xs i x x h)

pub length_take : {A : Type 0} (xs : List A) (i : ℕ) → i < length xs → length (take i xs) ≡ i
length_take xs i lt = length-take-le i xs (omega arith)

-- what holds of all items holds of each
pub at_place : {A : Type 0} (P : A → Type 0) (xs : List A) (i : ℕ) (x : A) → AllByRecursion P xs → slice_get xs i ≡ Some x → P x
at_place P [] i x all h = absurd (none-some x h)
at_place P (y ∷ ys) zero x all h = subst P (same_Some y x h) all.0
at_place P (y ∷ ys) (suc i) x all h = at_place P ys i x all.1 h

-- an item of a list with one more is an item of the list, or the last
pub slice_get_push : {A : Type 0} (xs : List A) (y : A) → slice_get (xs ++ y ∷ []) (length xs) ≡ Some y
slice_get_push [] y = refl
slice_get_push (x ∷ xs) y = slice_get_push xs y

pub slice_get_before : {A : Type 0} (xs : List A) (y : A) (k : ℕ) → k < length xs → slice_get (xs ++ y ∷ []) k ≡ slice_get xs k
slice_get_before [] y k h = absurd (omega arith)
slice_get_before (x ∷ xs) y zero h = refl
slice_get_before (x ∷ xs) y (suc k) h = slice_get_before xs y k (omega arith)
