-- The order of lists by first difference, and of paths in the walk.
use Rattle.std.proofs.Common.{◌≡◌, ◌⊎◌, ◌<◌, ◌∙◌, ℕ, List, [], ◌∷◌, ◌++◌}
use Rattle.std.proofs.Common.{sym, ap, refl, inl, inr, arith}
use Rattle.std.proofs.lemmas.Bool.{cases_lt}
use Rattle.ix_hierarchy.specs.Hierarchy.{Path}
use Rattle.ix_hierarchy.specs.Walk.{IsLess, IsBefore, NetAt, InstanceAt, steps}

pub less_irrefl : (a : List ℕ) → IsLess a a → ⊥
less_irrefl [] h = h
less_irrefl (x ∷ a) (inl h) = omega arith
less_irrefl (x ∷ a) (inr h) = less_irrefl a h.1

pub less_trans : (a b c : List ℕ) → IsLess a b → IsLess b c → IsLess a c
less_trans [] [] c h k = absurd h
less_trans [] (y ∷ b) [] h k = absurd k
less_trans [] (y ∷ b) (z ∷ c) h k = tt
less_trans (x ∷ a) [] c h k = absurd h
less_trans (x ∷ a) (y ∷ b) [] h k = absurd k
less_trans (x ∷ a) (y ∷ b) (z ∷ c) (inl h) (inl k) = inl (omega arith)
less_trans (x ∷ a) (y ∷ b) (z ∷ c) (inl h) (inr k) = let e = k.0 in inl (omega arith)
less_trans (x ∷ a) (y ∷ b) (z ∷ c) (inr h) (inl k) = let e = h.0 in inl (omega arith)
less_trans (x ∷ a) (y ∷ b) (z ∷ c) (inr h) (inr k) = inr (h.0 ∙ k.0, less_trans a b c h.1 k.1)

pub less_total : (a b : List ℕ) → (IsLess a b ⊎ IsLess b a) ⊎ (a ≡ b)
less_total [] [] = inr refl
less_total [] (y ∷ b) = inl (inl tt)
less_total (x ∷ a) [] = inl (inr tt)
less_total (x ∷ a) (y ∷ b) = elim (cases_lt x y) [
  | inl h ↦ inl (inl (inl h))
  | inr h ↦ elim (cases_lt y x) [
    | inl k ↦ inl (inr (inl k))
    | inr k ↦
        let e : x ≡ y = omega arith in
        elim (less_total a b) [
          | inl w ↦ elim w [
            | inl v ↦ inl (inl (inr (e, v)))
            | inr v ↦ inl (inr (inr (sym e, v)))
          ]
          | inr w ↦ inr (ap (λ n. n ∷ a) e ∙ ap (λ l. y ∷ l) w)
        ]
  ]
]

pub steps_less : (a b : Path) → IsLess a b → IsLess (steps a) (steps b)
steps_less [] [] h = h
steps_less [] (y ∷ b) h = tt
steps_less (x ∷ a) [] h = absurd h
steps_less (x ∷ a) (y ∷ b) (inl h) = inr (refl, inl h)
steps_less (x ∷ a) (y ∷ b) (inr h) = inr (refl, inr (h.0, steps_less a b h.1))

pub less_steps : (a b : Path) → IsLess (steps a) (steps b) → IsLess a b
less_steps [] [] h = h
less_steps [] (y ∷ b) h = tt
less_steps (x ∷ a) [] h = absurd h
less_steps (x ∷ a) (y ∷ b) (inl h) = absurd (omega arith)
less_steps (x ∷ a) (y ∷ b) (inr (e, inl h)) = inl h
less_steps (x ∷ a) (y ∷ b) (inr (e, inr h)) = inr (h.0, less_steps a b h.1)

-- instances are in the order of their paths
pub before_instances : (a b : Path) → IsLess a b → IsBefore (InstanceAt a) (InstanceAt b)
before_instances a b h = inr (refl, steps_less a b h)

pub instances_before : (a b : Path) → IsBefore (InstanceAt a) (InstanceAt b) → IsLess a b
instances_before a b (inl h) = absurd (omega arith)
instances_before a b (inr h) = less_steps a b h.1

-- nets are in the order of their instances, and then of their places
nets_less : (a b : Path) (m n : ℕ)
    → IsLess (steps a ++ 0 ∷ m ∷ []) (steps b ++ 0 ∷ n ∷ []) → IsLess a b ⊎ ((a ≡ b) × (m < n))
nets_less [] [] m n (inl h) = absurd (omega arith)
nets_less [] [] m n (inr (e, inl h)) = inr (refl, h)
nets_less [] [] m n (inr (e, inr h)) = absurd h.1
nets_less [] (y ∷ b) m n h = inl tt
nets_less (x ∷ a) [] m n (inl h) = absurd (omega arith)
nets_less (x ∷ a) [] m n (inr h) = let e = h.0 in absurd (omega arith)
nets_less (x ∷ a) (y ∷ b) m n (inl h) = absurd (omega arith)
nets_less (x ∷ a) (y ∷ b) m n (inr (e, inl h)) = inl (inl h)
nets_less (x ∷ a) (y ∷ b) m n (inr (e, inr h)) = elim (nets_less a b m n h.1) [
  | inl w ↦ inl (inr (h.0, w))
  | inr w ↦ inr (ap (λ k. k ∷ a) h.0 ∙ ap (λ l. y ∷ l) w.0, w.1)
]

less_nets : (a b : Path) (m n : ℕ) → IsLess a b ⊎ ((a ≡ b) × (m < n))
    → IsLess (steps a ++ 0 ∷ m ∷ []) (steps b ++ 0 ∷ n ∷ [])
less_nets [] [] m n (inl h) = absurd h
less_nets [] [] m n (inr h) = inr (refl, inl h.1)
less_nets [] (y ∷ b) m n h = inl (omega arith)
less_nets (x ∷ a) [] m n (inl h) = absurd h
less_nets (x ∷ a) [] m n (inr h) = let e = h.0 in absurd cc
less_nets (x ∷ a) (y ∷ b) m n (inl (inl h)) = inr (refl, inl h)
less_nets (x ∷ a) (y ∷ b) m n (inl (inr h)) =
    inr (refl, inr (h.0, less_nets a b m n (inl h.1)))
less_nets (x ∷ a) (y ∷ b) m n (inr h) =
    let e = h.0 in
    inr (refl, inr (cc, less_nets a b m n (inr (cc, h.1))))

pub nets_before : (a b : Path) (m n : ℕ) → IsBefore (NetAt a m) (NetAt b n)
    → IsLess a b ⊎ ((a ≡ b) × (m < n))
nets_before a b m n (inl h) = absurd (omega arith)
nets_before a b m n (inr h) = nets_less a b m n h.1

pub before_nets : (a b : Path) (m n : ℕ) → IsLess a b ⊎ ((a ≡ b) × (m < n))
    → IsBefore (NetAt a m) (NetAt b n)
before_nets a b m n h = inr (refl, less_nets a b m n h)
