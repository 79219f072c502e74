-- Places in parts of lists.
use Rattle.std.proofs.Common.{◌≡◌, ◌<◌, ◌+◌, ap, refl, ◌∙◌, ℕ, zero, suc, List, [], ◌∷◌, slice_get}
use Rattle.std.proofs.Common.{Some, arith, take, drop, length, ◌++◌, ◌⊎◌, inl, inr}
use Rattle.std.proofs.lemmas.Option.{none-some}

pub slice_drop : {A : Type 0} (a : ℕ) (xs : List A) (k : ℕ)
    → slice_get (drop a xs) k ≡ slice_get xs (a + k)
slice_drop zero xs k = let e : k ≡ 0 + k = omega arith in ap (slice_get xs) e
slice_drop (suc a) [] k = refl
slice_drop (suc a) (x ∷ xs) k =
    let e : suc (a + k) ≡ suc a + k = omega arith in
    slice_drop a xs k ∙ ap (slice_get (x ∷ xs)) e

pub slice_take : {A : Type 0} (n : ℕ) (xs : List A) (k : ℕ) → k < n
    → slice_get (take n xs) k ≡ slice_get xs k
slice_take zero xs k lt = absurd (omega arith)
slice_take (suc n) [] k lt = refl
slice_take (suc n) (x ∷ xs) zero lt = refl
slice_take (suc n) (x ∷ xs) (suc k) lt = slice_take n xs k (omega arith)

pub within_take : {A : Type 0} (n : ℕ) (xs : List A) (k : ℕ) (x : A)
    → slice_get (take n xs) k ≡ Some x → k < n
within_take zero xs k x h = absurd (none-some x h)
within_take (suc n) [] k x h = absurd (none-some x h)
within_take (suc n) (y ∷ xs) zero x h = omega arith
within_take (suc n) (y ∷ xs) (suc k) x h =
    let less : k < n = within_take n xs k x h in omega arith

-- what stands in the first of two lists, and in the second
pub in_first : {A : Type 0} (xs ys : List A) (k : ℕ) (x : A) → slice_get xs k ≡ Some x
    → slice_get (xs ++ ys) k ≡ Some x
in_first [] ys k x h = absurd (none-some x h)
in_first (y ∷ xs) ys zero x h = h
in_first (y ∷ xs) ys (suc k) x h = in_first xs ys k x h

pub in_second : {A : Type 0} (xs ys : List A) (k : ℕ)
    → slice_get (xs ++ ys) (length xs + k) ≡ slice_get ys k
in_second [] ys k = let e : 0 + k ≡ k = omega arith in ap (slice_get ys) e
in_second (x ∷ xs) ys k =
    let e : suc (length xs) + k ≡ suc (length xs + k) = omega arith in
    ap (slice_get (x ∷ (xs ++ ys))) e ∙ in_second xs ys k

-- which of both it is
pub in_either : {A : Type 0} (xs ys : List A) (k : ℕ) (x : A) → slice_get (xs ++ ys) k ≡ Some x
    → (slice_get xs k ≡ Some x)
    ⊎ ((j : ℕ) × (k ≡ length xs + j) × (slice_get ys j ≡ Some x))
in_either [] ys k x h = let e : k ≡ 0 + k = omega arith in inr (k, e, h)
in_either (y ∷ xs) ys zero x h = inl h
in_either (y ∷ xs) ys (suc k) x h = elim (in_either xs ys k x h) [
  | inl first ↦ inl first
  | inr second ↦ let e : suc k ≡ suc (length xs) + second.0 =
      let f : k ≡ length xs + second.0 = second.1 in omega arith in
      inr (second.0, e, second.2)
]
