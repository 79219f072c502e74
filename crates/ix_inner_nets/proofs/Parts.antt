-- Elements of parts of lists.
use Rattle.std.proofs.Common.{◌≡◌, ◌<◌, ◌≤◌, ◌+◌, ◌-◌, ◌∙◌, ℕ, suc, zero, List, [], ◌∷◌}
use Rattle.std.proofs.Common.{Some, slice_get, take, drop, sym, ap, refl, arith}
use Rattle.std.proofs.Common.{Bool, true, false, ◌&&◌, ◌||◌}
use Rattle.std.specs.List.{list_any}

get_drop : {X : Type 0} → (s : ℕ) (xs : List X) (j : ℕ)
    → slice_get (drop s xs) j ≡ slice_get xs (s + j)
get_drop zero xs j = let e : j ≡ 0 + j = omega arith in ap (slice_get xs) e
get_drop (suc s) [] j = refl
get_drop (suc s) (x ∷ xs) j =
    let e : suc (s + j) ≡ suc s + j = omega arith in
    get_drop s xs j ∙ ap (slice_get (x ∷ xs)) e

get_take : {X : Type 0} → (n : ℕ) (xs : List X) (j : ℕ) (x : X)
    → slice_get (take n xs) j ≡ Some x → (slice_get xs j ≡ Some x) × (j < n)
get_take zero xs j x h = absurd cc
get_take (suc n) [] j x h = absurd cc
get_take (suc n) (y ∷ xs) zero x h = (h, omega arith)
get_take (suc n) (y ∷ xs) (suc j) x h =
    let w = get_take n xs j x h in
    let few = w.1 in
    (w.0, omega arith)

take_get : {X : Type 0} → (n : ℕ) (xs : List X) (j : ℕ) (x : X) → j < n
    → slice_get xs j ≡ Some x → slice_get (take n xs) j ≡ Some x
take_get zero xs j x few h = absurd (omega arith)
take_get (suc n) [] j x few h = absurd cc
take_get (suc n) (y ∷ xs) zero x few h = h
take_get (suc n) (y ∷ xs) (suc j) x few h = take_get n xs j x (omega arith) h

-- a place between two is one of the part between them, and back
pub part_in : {X : Type 0} → (xs : List X) (start end k : ℕ) (x : X) → start ≤ k → k < end
    → slice_get xs k ≡ Some x → slice_get (take (end - start) (drop start xs)) (k - start) ≡ Some x
part_in xs start end k x from to h =
    let e : start + (k - start) ≡ k = omega arith in
    take_get (end - start) (drop start xs) (k - start) x (omega arith)
    (get_drop start xs (k - start) ∙ ap (slice_get xs) e ∙ h)

pub part_out : {X : Type 0} → (xs : List X) (start end j : ℕ) (x : X)
    → slice_get (take (end - start) (drop start xs)) j ≡ Some x
    → (slice_get xs (start + j) ≡ Some x) × (start + j < end)
part_out xs start end j x h =
    let w = get_take (end - start) (drop start xs) j x h in
    let few = w.1 in
    (sym (get_drop start xs j) ∙ w.0, omega arith)

-- an element that passes a test
any_step : {X : Type 0} → (p : X → Bool) (x : X) (xs : List X) (b : Bool) → p x ≡ b
    → (b || list_any p xs) ≡ true
    → (list_any p xs ≡ true → (i : ℕ) × (y : X) × (slice_get xs i ≡ Some y) × (p y ≡ true))
    → (i : ℕ) × (y : X) × (slice_get (x ∷ xs) i ≡ Some y) × (p y ≡ true)
any_step p x xs true e h rest = (0, x, refl, e)
any_step p x xs false e h rest = let w = rest h in (suc w.0, w.1, w.2, w.3)

pub any_at : {X : Type 0} → (p : X → Bool) (xs : List X) → list_any p xs ≡ true
    → (i : ℕ) × (x : X) × (slice_get xs i ≡ Some x) × (p x ≡ true)
any_at p [] h = absurd cc
any_at p (x ∷ xs) h = any_step p x xs (p x) refl h (λ r. any_at p xs r)

pub both_parts : (a b : Bool) → (a && b) ≡ true → (a ≡ true) × (b ≡ true)
both_parts true b h = (refl, h)
both_parts false b h = absurd cc
