-- Paths that end in one step, and items that pass a test.
use Rattle.std.proofs.Common.{◌≡◌, refl, ℕ, suc, List, [], ◌∷◌, ◌++◌}
use Rattle.std.proofs.Common.{slice_get, Some, Bool, true, false, ◌&&◌, ◌||◌}
use Rattle.std.specs.List.{list_any}
use Rattle.std.proofs.lemmas.Bool.{false≢true}

pub both_true : (a b : Bool) → (a && b) ≡ true → (a ≡ true) × (b ≡ true)
both_true true b h = (refl, h)
both_true false b h = absurd (false≢true h)

-- what passes is there
pub any_there : {A : Type 0} (p : A → Bool) (xs : List A) → list_any p xs ≡ true
    → (k : ℕ) × (x : A) × (slice_get xs k ≡ Some x) × (p x ≡ true)
any_there p [] h = absurd (false≢true h)
any_there {A} p (x ∷ xs) h = by (p x) refl h (any_there p xs)
  where
    by : (b : Bool) → p x ≡ b → (b || list_any p xs) ≡ true
        → (list_any p xs ≡ true
        → (k : ℕ) × (y : A) × (slice_get xs k ≡ Some y) × (p y ≡ true))
        → (k : ℕ) × (y : A) × (slice_get (x ∷ xs) k ≡ Some y) × (p y ≡ true)
    by true e h again = (0, x, refl, e)
    by false e h again = let more = again h in (suc more.0, more.1, more.2, more.3)

pub none_last : {A : Type 0} (xs : List A) (x : A) → [] ≡ xs ++ x ∷ [] → ⊥
none_last [] x e = absurd (cc)
none_last (y ∷ xs) x e = absurd (cc)

-- the last step and what is before it
pub same_last : {A : Type 0} (xs ys : List A) (x y : A) → xs ++ x ∷ [] ≡ ys ++ y ∷ []
    → (xs ≡ ys) × (x ≡ y)
same_last [] [] x y e = let h : x ≡ y = cc in (refl, h)
same_last [] (b ∷ ys) x y e = let h : [] ≡ ys ++ y ∷ [] = cc in absurd (none_last ys y h)
same_last (a ∷ xs) [] x y e = let h : [] ≡ xs ++ x ∷ [] = cc in absurd (none_last xs x h)
same_last (a ∷ xs) (b ∷ ys) x y e =
    let rest : xs ++ x ∷ [] ≡ ys ++ y ∷ [] = cc in
    let first : a ≡ b = cc in
    let more = same_last xs ys x y rest in
    let both : a ∷ xs ≡ b ∷ ys = let h : xs ≡ ys = more.0 in cc in
    (both, more.1)
