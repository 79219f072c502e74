-- Places in parts of lists.
use Rattle.std.proofs.Common.{◌≡◌, ◌<◌, ◌+◌, ap, refl, ◌∙◌, ℕ, zero, suc, List, [], ◌∷◌, slice_get}
use Rattle.std.proofs.Common.{Some, arith, take, drop}
use Rattle.std.proofs.lemmas.Option.{none-some}

pub slice_drop : {A : Type 0} (a : ℕ) (xs : List A) (k : ℕ)
    → slice_get (drop a xs) k ≡ slice_get xs (a + k)
slice_drop zero xs k = let e : k ≡ 0 + k = omega arith in ap (slice_get xs) e
slice_drop (suc a) [] k = refl
slice_drop (suc a) (x ∷ xs) k =
    let e : suc (a + k) ≡ suc a + k = omega arith in
    slice_drop a xs k ∙ ap (slice_get (x ∷ xs)) e

pub slice_take : {A : Type 0} (n : ℕ) (xs : List A) (k : ℕ) → k < n
    → slice_get (take n xs) k ≡ slice_get xs k
slice_take zero xs k lt = absurd (omega arith)
slice_take (suc n) [] k lt = refl
slice_take (suc n) (x ∷ xs) zero lt = refl
slice_take (suc n) (x ∷ xs) (suc k) lt = slice_take n xs k (omega arith)

pub within_take : {A : Type 0} (n : ℕ) (xs : List A) (k : ℕ) (x : A)
    → slice_get (take n xs) k ≡ Some x → k < n
within_take zero xs k x h = absurd (none-some x h)
within_take (suc n) [] k x h = absurd (none-some x h)
within_take (suc n) (y ∷ xs) zero x h = omega arith
within_take (suc n) (y ∷ xs) (suc k) x h =
    let less : k < n = within_take n xs k x h in omega arith
