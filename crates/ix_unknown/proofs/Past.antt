-- Paths that go on from one or come behind it.
use Rattle.std.proofs.Common.{◌≡◌, ◌⊎◌, ◌<◌, ◌≤◌, ◌∙◌, ℕ, [], ◌∷◌, ◌++◌, refl, sym, ap, arith, inl}
use Rattle.std.proofs.Common.{inr}
use Rattle.std.proofs.lemmas.Bool.{cases_lt}
use Rattle.ix_hierarchy.specs.Hierarchy.{Path}
use Rattle.ix_hierarchy.specs.Walk.{IsLess, IsBefore, InstanceAt, steps}

abbrev pub IsPast : (path other : Path) → Type 0
IsPast [] other = Unit {0}
IsPast (x ∷ path) [] = ⊥
IsPast (x ∷ path) (y ∷ other) = (x < y) ⊎ ((x ≡ y) × IsPast path other)

-- it comes behind whatever goes on from the path, or it goes on itself
pub past_cases : (path other rest : Path) → IsPast path other
    → IsPast (path ++ rest) other ⊎ ((on : Path) × (other ≡ path ++ on))
past_cases [] other rest h = inr (other, refl)
past_cases (x ∷ path) [] rest h = absurd h
past_cases (x ∷ path) (y ∷ other) rest (inl h) = inl (inl h)
past_cases (x ∷ path) (y ∷ other) rest (inr h) = elim (past_cases path other rest h.1) [
  | inl w ↦ inl (inr (h.0, w))
  | inr w ↦ inr (w.0, ap (λ n. n ∷ other) (sym h.0) ∙ ap (λ l. x ∷ l) w.1)
]

pub past_on : (path : Path) (place c : ℕ) (rest : Path) → place ≤ c
    → IsPast (path ++ place ∷ []) (path ++ c ∷ rest)
past_on [] place c rest h = elim (cases_lt place c) [
  | inl w ↦ inl w
  | inr w ↦ inr (omega arith, tt)
]
past_on (x ∷ path) place c rest h = inr (refl, past_on path place c rest h)

past_apart : (path other : Path) → IsPast path other → IsLess other path → ⊥
past_apart [] [] h k = k
past_apart [] (y ∷ other) h k = k
past_apart (x ∷ path) [] h k = h
past_apart (x ∷ path) (y ∷ other) (inl h) (inl k) = omega arith
past_apart (x ∷ path) (y ∷ other) (inl h) (inr k) = let e = k.0 in omega arith
past_apart (x ∷ path) (y ∷ other) (inr h) (inl k) = let e = h.0 in omega arith
past_apart (x ∷ path) (y ∷ other) (inr h) (inr k) = past_apart path other h.1 k.1

less_steps : (a b : Path) → IsLess (steps a) (steps b) → IsLess a b
less_steps [] [] h = h
less_steps [] (y ∷ b) h = tt
less_steps (x ∷ a) [] h = absurd h
less_steps (x ∷ a) (y ∷ b) (inl h) = absurd (omega arith)
less_steps (x ∷ a) (y ∷ b) (inr (e, inl h)) = inl h
less_steps (x ∷ a) (y ∷ b) (inr (e, inr h)) = inr (h.0, less_steps a b h.1)

pub not_before : (path other : Path) → IsPast path other
    → IsBefore (InstanceAt other) (InstanceAt path) → ⊥
not_before path other h (inl k) = omega arith
not_before path other h (inr k) = past_apart path other h (less_steps other path k.1)

-- a path that isn't empty has a last step
pub last_step : (path : Path) → (path ≡ []) ⊎ ((parent : Path) × (place : ℕ)
    × (path ≡ parent ++ place ∷ []))
last_step [] = inl refl
last_step (x ∷ path) = elim (last_step path) [
  | inl e ↦ inr ([], x, ap (λ l. x ∷ l) e)
  | inr w ↦ inr (x ∷ w.0, w.1, ap (λ l. x ∷ l) w.2)
]
