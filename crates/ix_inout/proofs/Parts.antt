-- Elements of lists.
use Rattle.std.proofs.Common.{◌≡◌, ◌<◌, ◌∙◌, ℕ, suc, zero, List, [], ◌∷◌, length}
use Rattle.std.proofs.Common.{Some, slice_get, Bool, true, false, ◌&&◌, ◌||◌, refl, sym, ap, subst}
use Rattle.std.proofs.Common.{arith}
use Rattle.std.specs.Prelude.{cond}
use Rattle.std.specs.List.{list_any, find, AllByRecursion}
use Rattle.std.proofs.lemmas.Option.{same_Some}

pub gets_at : {X : Type 0} → (xs : List X) (i : ℕ) → i < length xs
    → (x : X) × (slice_get xs i ≡ Some x)
gets_at [] i few = absurd (omega arith)
gets_at (x ∷ xs) zero few = (x, refl)
gets_at (x ∷ xs) (suc i) few = gets_at xs i (omega arith)

-- an element that passes a test
any_step : {X : Type 0} → (p : X → Bool) (x : X) (xs : List X) (b : Bool) → p x ≡ b
    → (b || list_any p xs) ≡ true
    → (list_any p xs ≡ true → (i : ℕ) × (y : X) × (slice_get xs i ≡ Some y) × (p y ≡ true))
    → (i : ℕ) × (y : X) × (slice_get (x ∷ xs) i ≡ Some y) × (p y ≡ true)
any_step p x xs true e h rest = (0, x, refl, e)
any_step p x xs false e h rest = let w = rest h in (suc w.0, w.1, w.2, w.3)

pub any_at : {X : Type 0} → (p : X → Bool) (xs : List X) → list_any p xs ≡ true
    → (i : ℕ) × (x : X) × (slice_get xs i ≡ Some x) × (p x ≡ true)
any_at p [] h = absurd cc
any_at p (x ∷ xs) h = any_step p x xs (p x) refl h (λ r. any_at p xs r)

pub both_parts : (a b : Bool) → (a && b) ≡ true → (a ≡ true) × (b ≡ true)
both_parts true b h = (refl, h)
both_parts false b h = absurd cc

-- what is found is there, and passes
find_step : {X : Type 0} → (p : X → Bool) (y : X) (xs : List X) (b : Bool) (x : X) → p y ≡ b
    → cond b (Some y) (find p xs) ≡ Some x
    → (find p xs ≡ Some x → (i : ℕ) × (slice_get xs i ≡ Some x) × (p x ≡ true))
    → (i : ℕ) × (slice_get (y ∷ xs) i ≡ Some x) × (p x ≡ true)
find_step p y xs true x e h rest =
    (0, h, ap p (sym (same_Some y x h)) ∙ e)
find_step p y xs false x e h rest = let w = rest h in (suc w.0, w.1, w.2)

pub found_at : {X : Type 0} → (p : X → Bool) (xs : List X) (x : X) → find p xs ≡ Some x
    → (i : ℕ) × (slice_get xs i ≡ Some x) × (p x ≡ true)
found_at p [] x h = absurd cc
found_at p (y ∷ xs) x h = find_step p y xs (p y) x refl h (λ r. found_at p xs x r)

pub all_at : {X : Type 0} (P : X → Type 0) → (xs : List X) (i : ℕ) (x : X) → AllByRecursion P xs
    → slice_get xs i ≡ Some x → P x
all_at P [] i x a h = absurd cc
all_at P (y ∷ xs) zero x a h = subst P (same_Some y x h) a.0
all_at P (y ∷ xs) (suc i) x a h = all_at P xs i x a.1 h
