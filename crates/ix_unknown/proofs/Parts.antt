-- Elements of lists, and places of numbers in them.
use Rattle.std.proofs.Common.{◌≡◌, ◌<◌, ◌≤◌, ◌∙◌, ℕ, suc, zero, List, [], ◌∷◌, length}
use Rattle.std.proofs.Common.{Some, slice_get, take, Bool, true, false, refl, sym, ap}
use Rattle.std.proofs.Common.{subst, arith, Contains, nat_eq}
use Rattle.std.specs.Prelude.{cond}
use Rattle.std.specs.List.{find, AllByRecursion}
use Rattle.std.proofs.lemmas.Bool.Decides.{nat_tests}
use Rattle.std.proofs.lemmas.Option.{same_Some, slice_get-get_or}
use Rattle.ix_unknown.specs.Marked.{place_of}

pub gets_at : {X : Type 0} → (xs : List X) (i : ℕ) → i < length xs
    → (x : X) × (slice_get xs i ≡ Some x)
gets_at [] i few = absurd (omega arith)
gets_at (x ∷ xs) zero few = (x, refl)
gets_at (x ∷ xs) (suc i) few = gets_at xs i (omega arith)

get_take : {X : Type 0} → (n : ℕ) (xs : List X) (j : ℕ) (x : X)
    → slice_get (take n xs) j ≡ Some x → (slice_get xs j ≡ Some x) × (j < n)
get_take zero xs j x h = absurd cc
get_take (suc n) [] j x h = absurd cc
get_take (suc n) (y ∷ xs) zero x h = (h, omega arith)
get_take (suc n) (y ∷ xs) (suc j) x h =
    let w = get_take n xs j x h in
    let few = w.1 in
    (w.0, omega arith)

-- what is among the first so many
pub among : {X : Type 0} → (n : ℕ) (xs : List X) (x : X) → Contains (take n xs) x
    → (j : ℕ) × (j < n) × (slice_get xs j ≡ Some x)
among n xs x (k, few, is) =
    let w = get_take n xs k x (slice_get-get_or (take n xs) k x few ∙ ap Some is) in
    (k, w.1, w.0)

pub contained : {X : Type 0} → (xs : List X) (x : X) → Contains xs x
    → (j : ℕ) × (slice_get xs j ≡ Some x)
contained xs x (k, few, is) = (k, slice_get-get_or xs k x few ∙ ap Some is)

-- the first place of a number
place_step : (n y : ℕ) (xs : List ℕ) (b : Bool) (j : ℕ) → nat_eq y n ≡ b
    → slice_get (y ∷ xs) j ≡ Some n
    → ((k : ℕ) → slice_get xs k ≡ Some n → place_of n xs ≤ k)
    → cond b 0 (suc (place_of n xs)) ≤ j
place_step n y xs true j e h rest = omega arith
place_step n y xs false zero e h rest =
    let s : y ≡ n = same_Some y n h in
    absurd (grind (arith, nat_tests))
place_step n y xs false (suc j) e h rest = let r = rest j h in omega arith

pub place_below : (n : ℕ) (xs : List ℕ) (j : ℕ) → slice_get xs j ≡ Some n → place_of n xs ≤ j
place_below n [] j h = absurd cc
place_below n (y ∷ xs) j h = place_step n y xs (nat_eq y n) j refl h (λ k g. place_below n xs k g)

at_step : (n y : ℕ) (xs : List ℕ) (b : Bool) (j : ℕ) → nat_eq y n ≡ b
    → slice_get (y ∷ xs) j ≡ Some n
    → ((k : ℕ) → slice_get xs k ≡ Some n → slice_get xs (place_of n xs) ≡ Some n)
    → slice_get (y ∷ xs) (cond b 0 (suc (place_of n xs))) ≡ Some n
at_step n y xs true j e h rest =
    let s : y ≡ n = grind (arith, nat_tests) in
    ap Some s
at_step n y xs false zero e h rest =
    let s : y ≡ n = same_Some y n h in
    absurd (grind (arith, nat_tests))
at_step n y xs false (suc j) e h rest = rest j h

pub place_at : (n : ℕ) (xs : List ℕ) (j : ℕ) → slice_get xs j ≡ Some n
    → slice_get xs (place_of n xs) ≡ Some n
place_at n [] j h = absurd cc
place_at n (y ∷ xs) j h = at_step n y xs (nat_eq y n) j refl h (λ k g. place_at n xs k g)

pub all_at : {X : Type 0} (P : X → Type 0) → (xs : List X) (i : ℕ) (x : X) → AllByRecursion P xs
    → slice_get xs i ≡ Some x → P x
all_at P [] i x a h = absurd cc
all_at P (y ∷ xs) zero x a h = subst P (same_Some y x h) a.0
all_at P (y ∷ xs) (suc i) x a h = all_at P xs i x a.1 h

find_step : {X : Type 0} → (p : X → Bool) (y : X) (xs : List X) (b : Bool) (x : X) → p y ≡ b
    → cond b (Some y) (find p xs) ≡ Some x
    → (find p xs ≡ Some x → (i : ℕ) × (slice_get xs i ≡ Some x) × (p x ≡ true))
    → (i : ℕ) × (slice_get (y ∷ xs) i ≡ Some x) × (p x ≡ true)
find_step p y xs true x e h rest = (0, h, ap p (sym (same_Some y x h)) ∙ e)
find_step p y xs false x e h rest = let w = rest h in (suc w.0, w.1, w.2)

pub found_at : {X : Type 0} → (p : X → Bool) (xs : List X) (x : X) → find p xs ≡ Some x
    → (i : ℕ) × (slice_get xs i ≡ Some x) × (p x ≡ true)
found_at p [] x h = absurd cc
found_at p (y ∷ xs) x h = find_step p y xs (p y) x refl h (λ r. found_at p xs x r)
