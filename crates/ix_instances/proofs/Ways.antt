-- Paths in the order of the walk.
use Rattle.std.proofs.Common.{◌≡◌, ◌⊎◌, ◌<◌, ◌≤◌, ◌+◌, ◌∙◌, ℕ, List, [], ◌∷◌, ◌++◌}
use Rattle.std.proofs.Common.{ap, refl, inl, inr, arith}
use Rattle.std.proofs.lemmas.Bool.{cases_lt}
use Rattle.ix_hierarchy.specs.Hierarchy.{Path}
use Rattle.ix_hierarchy.specs.Walk.{IsLess, IsBefore, InstanceAt, steps}

pub less_irrefl : (a : List ℕ) → IsLess a a → ⊥
less_irrefl [] h = h
less_irrefl (x ∷ a) (inl h) = omega arith
less_irrefl (x ∷ a) (inr h) = less_irrefl a h.1

pub less_trans : (a b c : List ℕ) → IsLess a b → IsLess b c → IsLess a c
less_trans [] [] c h k = absurd h
less_trans [] (y ∷ b) [] h k = absurd k
less_trans [] (y ∷ b) (z ∷ c) h k = tt
less_trans (x ∷ a) [] c h k = absurd h
less_trans (x ∷ a) (y ∷ b) [] h k = absurd k
less_trans (x ∷ a) (y ∷ b) (z ∷ c) (inl h) (inl k) = inl (omega arith)
less_trans (x ∷ a) (y ∷ b) (z ∷ c) (inl h) (inr k) = let e = k.0 in inl (omega arith)
less_trans (x ∷ a) (y ∷ b) (z ∷ c) (inr h) (inl k) = let e = h.0 in inl (omega arith)
less_trans (x ∷ a) (y ∷ b) (z ∷ c) (inr h) (inr k) = inr (h.0 ∙ k.0, less_trans a b c h.1 k.1)

steps_less : (a b : Path) → IsLess a b → IsLess (steps a) (steps b)
steps_less [] [] h = h
steps_less [] (y ∷ b) h = tt
steps_less (x ∷ a) [] h = absurd h
steps_less (x ∷ a) (y ∷ b) (inl h) = inr (refl, inl h)
steps_less (x ∷ a) (y ∷ b) (inr h) = inr (refl, inr (h.0, steps_less a b h.1))

-- instances are in the order of their paths
pub before_instances : (a b : Path) → IsLess a b → IsBefore (InstanceAt a) (InstanceAt b)
before_instances a b h = inr (refl, steps_less a b h)

-- what goes on comes later
pub less_on : (path : Path) (place : ℕ) → IsLess path (path ++ place ∷ [])
less_on [] place = tt
less_on (x ∷ path) place = inr (refl, less_on path place)

-- before the first place of an instance there are it and what comes before it
pub before_first : (a path : Path) → IsLess a (path ++ 0 ∷ []) → (a ≡ path) ⊎ IsLess a path
before_first [] [] h = inl refl
before_first (x ∷ []) [] (inl h) = absurd (omega arith)
before_first (x ∷ []) [] (inr h) = absurd h.1
before_first (x ∷ y ∷ a) [] (inl h) = absurd (omega arith)
before_first (x ∷ y ∷ a) [] (inr h) = absurd h.1
before_first [] (z ∷ path) h = inr tt
before_first (x ∷ a) (z ∷ path) (inl h) = inr (inl h)
before_first (x ∷ a) (z ∷ path) (inr h) = elim (before_first a path h.1) [
  | inl e ↦ inl (ap (λ n. n ∷ a) h.0 ∙ ap (λ l. z ∷ l) e)
  | inr w ↦ inr (inr (h.0, w))
]

-- the place behind an instance comes after all in it
pub less_behind : (path : Path) (k place : ℕ)
    → IsLess ((path ++ k ∷ []) ++ place ∷ []) (path ++ (k + 1) ∷ [])
less_behind [] k place = inl (omega arith)
less_behind (x ∷ path) k place = inr (refl, less_behind path k place)

-- what comes before the place behind an instance comes before a place in it, or is at that place
-- or a later one
pub before_behind : (a path : Path) (k place : ℕ) → IsLess a (path ++ (k + 1) ∷ [])
    → IsLess a ((path ++ k ∷ []) ++ place ∷ [])
    ⊎ ((c : ℕ) × (rest : Path) × (place ≤ c) × (a ≡ (path ++ k ∷ []) ++ c ∷ rest))
before_behind [] [] k place h = inl tt
before_behind (x ∷ []) [] k place (inl h) = elim (cases_lt x k) [
  | inl w ↦ inl (inl w)
  | inr w ↦ inl (inr (omega arith, tt))
]
before_behind (x ∷ c ∷ rest) [] k place (inl h) = elim (cases_lt x k) [
  | inl w ↦ inl (inl w)
  | inr w ↦
      let e : x ≡ k = omega arith in
      elim (cases_lt c place) [
        | inl v ↦ inl (inr (e, inl v))
        | inr v ↦ inr (c, rest, v, ap (λ n. n ∷ c ∷ rest) e)
      ]
]
before_behind (x ∷ []) [] k place (inr h) = absurd h.1
before_behind (x ∷ c ∷ rest) [] k place (inr h) = absurd h.1
before_behind [] (z ∷ path) k place h = inl tt
before_behind (x ∷ a) (z ∷ path) k place (inl h) = inl (inl h)
before_behind (x ∷ a) (z ∷ path) k place (inr h) = elim (before_behind a path k place h.1) [
  | inl w ↦ inl (inr (h.0, w))
  | inr w ↦ inr (w.0, w.1, w.2, ap (λ n. n ∷ a) h.0 ∙ ap (λ l. z ∷ l) w.3)
]

-- in the top: what isn't the top comes before a place, or is at it or a later one
pub before_place : (c : ℕ) (rest : Path) (place : ℕ) → c < place → IsLess (c ∷ rest) (place ∷ [])
before_place c rest place h = inl h
