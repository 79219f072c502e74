-- What is there first of two, and lists by their first items.
use Rattle.std.proofs.Common.{◌≡◌, refl, ap, sym, ◌∙◌, ℕ, suc, ◌+◌, ◌||◌, Bool, true, false, cond, List, [], ◌∷◌, ◌++◌, slice_get, Option, Some, None, is_some, option_map, option_and_then, arith}
use Rattle.std.specs.Option.{option_or}
use Rattle.std.specs.List.{list_any, position, find}
use Rattle.std.proofs.lemmas.Option.{slice_get-get_or, none-some}
use Rattle.std.proofs.lemmas.List.Quantifiers.{position-Some}
use Rattle.std.proofs.lemmas.List.Folds.{find-append}
use Rattle.ix_device.proofs.FirstPlaces.{position-cons}

pub option_or-assoc : {A : Type 0} (a b c : Option A) → option_or (option_or a b) c ≡ option_or a (option_or b c)
option_or-assoc None b c = refl
option_or-assoc (Some x) b c = refl

pub option_or-none : {A : Type 0} (a : Option A) → option_or a None ≡ a
option_or-none None = refl
option_or-none (Some x) = refl

pub option_map-or : {A B : Type 0} (f : A → B) (a b : Option A) → option_map f (option_or a b) ≡ option_or (option_map f a) (option_map f b)
option_map-or f None b = refl
option_map-or f (Some x) b = refl

pub option_map-map : {A B C : Type 0} (f : A → B) (g : B → C) (o : Option A) → option_map g (option_map f o) ≡ option_map (λ x. g (f x)) o
option_map-map f g None = refl
option_map-map f g (Some x) = refl

is_some-map : {A B : Type 0} (f : A → B) (o : Option A) → is_some (option_map f o) ≡ is_some o
is_some-map f None = refl
is_some-map f (Some x) = refl

-- an item passes exactly where there is a first
pub list_any-position : {X : Type 0} (p : X → Bool) (xs : List X) → list_any p xs ≡ is_some (position p xs)
list_any-position p [] = refl
list_any-position p (x ∷ xs) = by (p x) (list_any-position p xs) ∙ ap is_some (sym (position-cons p x xs))
  where
    by : (b : Bool) → list_any p xs ≡ is_some (position p xs) → (b || list_any p xs) ≡ is_some (cond b (Some 0) (option_map (λ n. n + 1) (position p xs)))
    by true h = refl
    by false h = h ∙ sym (is_some-map (λ n. n + 1) (position p xs))

-- the first item that passes stands at the first place
pub position-at : {X : Type 0} (p : X → Bool) (xs : List X) (k : ℕ) → position p xs ≡ Some k → (x : X) × (slice_get xs k ≡ Some x) × (p x ≡ true)
position-at p [] k h = absurd (none-some k h)
position-at p (y ∷ ys) k h = let at = position-Some p (y ∷ ys) k y h in (_, slice_get-get_or (y ∷ ys) k y at.0, at.1)

-- the same the other way round
pub find-place : {X : Type 0} (p : X → Bool) (xs : List X) → find p xs ≡ option_and_then (slice_get xs) (position p xs)
find-place p [] = refl
find-place {X} p (x ∷ xs) = by (p x) (find-place p xs) ∙ ap (option_and_then (slice_get (x ∷ xs))) (sym (position-cons p x xs))
  where
    next : (o : Option ℕ) → option_and_then (slice_get xs) o ≡ option_and_then (slice_get (x ∷ xs)) (option_map (λ n. n + 1) o)
    next None = refl
    next (Some n) = ap (slice_get (x ∷ xs)) (let e : suc n ≡ n + 1 = omega arith in e)

    by : (b : Bool) → find p xs ≡ option_and_then (slice_get xs) (position p xs) → cond b (Some x) (find p xs) ≡ option_and_then (slice_get (x ∷ xs)) (cond b (Some 0) (option_map (λ n. n + 1) (position p xs)))
    by true h = refl
    by false h = h ∙ next (position p xs)

pub find-push : {X : Type 0} (p : X → Bool) (xs : List X) (y : X) → find p (xs ++ y ∷ []) ≡ option_or (find p xs) (cond (p y) (Some y) None)
find-push p xs y = find-append p xs (y ∷ [])
