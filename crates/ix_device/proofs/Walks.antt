-- Walks over lists by place.
use Rattle.std.proofs.Common.{◌≡◌, refl, ap, subst, ◌∙◌, ℕ, zero, suc, ◌+◌, ◌<◌, List, [], ◌∷◌, ◌++◌, map, take, length, slice_get, Some, Bool, true, false, ◌&&◌, ◌||◌, get_or, arith}
use Rattle.std.specs.List.{AllByRecursion, list_all, list_any}
use Rattle.std.proofs.lemmas.Map.Keys.{any_passes_from_place}
use Rattle.std.proofs.lemmas.List.Folds.{list_all_at, list_all_more, list_any_more}
use Rattle.std.proofs.lemmas.Option.{same_Some, none-some, slice_get_within, get_or_from_slice_get}
use Rattle.std.proofs.lemmas.List.{map_more, take_more, length-take-le}

-- the first i + 1 items are the first i and the next
pub map_take_next : {A B : Type 0} (f : A → B) (xs : List A) (i : ℕ) (x : A) → slice_get xs i ≡ Some x → map f (take (i + 1) xs) ≡ map f (take i xs) ++ f x ∷ []
map_take_next f xs i x h = map_more f xs i x (slice_get_within xs i x h) ∙ ap (λ y. map f (take i xs) ++ f y ∷ []) (get_or_from_slice_get xs i x x h)

pub take_next : {A : Type 0} (xs : List A) (i : ℕ) (x : A) → slice_get xs i ≡ Some x → take (i + 1) xs ≡ take i xs ++ x ∷ []
take_next xs i x h = take_more xs i x (slice_get_within xs i x h) ∙ ap (λ y. take i xs ++ y ∷ []) (get_or_from_slice_get xs i x x h)

pub length_take : {A : Type 0} (xs : List A) (i : ℕ) (x : A) → slice_get xs i ≡ Some x → length (take i xs) ≡ i
length_take xs i x h = let lt : i < length xs = slice_get_within xs i x h in length-take-le i xs (omega arith)

-- what holds of all items holds of each
pub at_place : {A : Type 0} (P : A → Type 0) (xs : List A) (i : ℕ) (x : A) → AllByRecursion P xs → slice_get xs i ≡ Some x → P x
at_place P [] i x all h = absurd (none-some x h)
at_place P (y ∷ ys) zero x all h = subst P (same_Some y x h) all.0
at_place P (y ∷ ys) (suc i) x all h = at_place P ys i x all.1 h

-- an item that fails a test fails it for all
pub all_fails : {A : Type 0} (p : A → Bool) (xs : List A) (i : ℕ) (x : A) → slice_get xs i ≡ Some x → p x ≡ false → list_all p xs ≡ false
all_fails p xs i x at h = list_all_at p xs i x (slice_get_within xs i x at) (ap p (get_or_from_slice_get xs i x x at) ∙ h)

-- one more item passes too
pub all_next : {A : Type 0} (p : A → Bool) (xs : List A) (i : ℕ) (x : A) → slice_get xs i ≡ Some x → list_all p (take i xs) ≡ true → p x ≡ true → list_all p (take (i + 1) xs) ≡ true
all_next p xs i x at before h = list_all_more p xs i x (slice_get_within xs i x at) ∙ ap (λ b. b && p (get_or xs i x)) before ∙ ap p (get_or_from_slice_get xs i x x at) ∙ h

-- what one of the items passes, with one item more
pub any_next : {A : Type 0} (p : A → Bool) (xs : List A) (i : ℕ) (x : A) → slice_get xs i ≡ Some x → list_any p (take (i + 1) xs) ≡ (list_any p (take i xs) || p x)
any_next p xs i x at = list_any_more p xs i x (slice_get_within xs i x at) ∙ ap (λ y. list_any p (take i xs) || p y) (get_or_from_slice_get xs i x x at)

-- an item that passes makes one pass
pub any_at : {A : Type 0} (p : A → Bool) (xs : List A) (i : ℕ) (x : A) → slice_get xs i ≡ Some x → p x ≡ true → list_any p xs ≡ true
any_at p xs i x at h = any_passes_from_place p xs i x at h

-- none passes with one item more that doesn't
pub none_next : {A : Type 0} (p : A → Bool) (xs : List A) (i : ℕ) (x : A) → slice_get xs i ≡ Some x → list_any p (take i xs) ≡ false → p x ≡ false → list_any p (take (i + 1) xs) ≡ false
none_next p xs i x at before h = any_next p xs i x at ∙ ap (λ b. b || p x) before ∙ h

-- tests that agree at each item
pub any_same : {A : Type 0} (p q : A → Bool) (xs : List A) → ((x : A) → p x ≡ q x) → list_any p xs ≡ list_any q xs
any_same p q [] h = refl
any_same p q (x ∷ xs) h = ap (λ b. b || list_any p xs) (h x) ∙ ap (λ b. q x || b) (any_same p q xs h)
