-- The order of places in the walk.
use Rattle.std.proofs.Common.{◌≡◌, ℕ, List, [], ◌∷◌, ◌++◌, arith, inl, inr}
use Rattle.ix_hierarchy.specs.Hierarchy.{Path}
use Rattle.ix_hierarchy.specs.Walk.{InstanceAt, PinAt, TopBit, IsBefore, IsLess, steps}
use Rattle.ix_open_inputs.specs.Standings.{IsEarlier}

-- of two lists one at most is the lesser
pub less_asym : (xs ys : List ℕ) → IsLess xs ys → IsLess ys xs → ⊥
less_asym [] [] h g = h
less_asym [] (y ∷ ys) h g = g
less_asym (x ∷ xs) [] h g = h
less_asym (x ∷ xs) (y ∷ ys) h g = elim h [
  | inl a ↦ elim g [
    | inl b ↦ absurd (omega arith)
    | inr b ↦ let e : y ≡ x = b.0 in absurd (omega arith)
  ]
  | inr a ↦ elim g [
    | inl b ↦ let e : x ≡ y = a.0 in absurd (omega arith)
    | inr b ↦ less_asym xs ys a.1 b.1
  ]
]

one_not_zero : ◌≡◌ {A = ℕ} 1 0 → ⊥
one_not_zero e = omega arith

-- an instance comes after the bits of the top
pub no_instance_before : (path : Path) (place index : ℕ)
    → IsBefore (InstanceAt path) (TopBit place index) → ⊥
no_instance_before path place index h = elim h [
  | inl less ↦ absurd (omega arith)
  | inr same ↦ absurd (one_not_zero same.0)
]

-- pins behind a path
abbrev pub pins_at : Path → (place index : ℕ) → List ℕ
pins_at path place index = steps path ++ 0 ∷ place ∷ index ∷ []

steps_apart : (a b : Path) (q j p i : ℕ) → IsLess (steps a) (steps b)
    → IsLess (pins_at b p i) (pins_at a q j) → ⊥
steps_apart [] [] q j p i h g = h
steps_apart [] (y ∷ b) q j p i h g = elim g [
  | inl less ↦ absurd (omega arith)
  | inr same ↦ absurd (one_not_zero same.0)
]
steps_apart (x ∷ a) [] q j p i h g = h
steps_apart (x ∷ a) (y ∷ b) q j p i h g = elim h [
  | inl less ↦ absurd (omega arith)
  | inr one ↦ elim g [
    | inl less ↦ absurd (omega arith)
    | inr two ↦ elim one.1 [
      | inl m ↦ elim two.1 [
        | inl n ↦ absurd (omega arith)
        | inr n ↦ let e : y ≡ x = n.0 in absurd (omega arith)
      ]
      | inr m ↦ elim two.1 [
        | inl n ↦ let e : x ≡ y = m.0 in absurd (omega arith)
        | inr n ↦ steps_apart a b q j p i m.1 n.1
      ]
    ]
  ]
]

-- the pins of an earlier instance come before those of a later one
pub pins_apart : (a b : Path) (q j p i : ℕ) → IsBefore (InstanceAt a) (InstanceAt b)
    → IsBefore (PinAt b p i) (PinAt a q j) → ⊥
pins_apart a b q j p i h g = elim h [
  | inl less ↦ absurd (omega arith)
  | inr one ↦ elim g [
    | inl less ↦ absurd (omega arith)
    | inr two ↦ steps_apart a b q j p i one.1 two.1
  ]
]

pins_less : (p i q j : ℕ) → IsLess (p ∷ i ∷ []) (q ∷ j ∷ []) → IsEarlier p i q j
pins_less p i q j h = elim h [
  | inl less ↦ inl less
  | inr same ↦ elim same.1 [
    | inl less ↦ inr (same.0, less)
    | inr none ↦ absurd none.1
  ]
]

steps_within : (a : Path) (p i q j : ℕ) → IsLess (pins_at a p i) (pins_at a q j)
    → IsEarlier p i q j
steps_within [] p i q j h = elim h [
  | inl less ↦ absurd (omega arith)
  | inr same ↦ pins_less p i q j same.1
]
steps_within (x ∷ a) p i q j h = elim h [
  | inl less ↦ absurd (omega arith)
  | inr one ↦ elim one.1 [
    | inl less ↦ absurd (omega arith)
    | inr two ↦ steps_within a p i q j two.1
  ]
]

-- the pins of one instance stand by port and index
pub pins_within : (a : Path) (p i q j : ℕ) → IsBefore (PinAt a p i) (PinAt a q j)
    → IsEarlier p i q j
pins_within a p i q j h = elim h [
  | inl less ↦ absurd (omega arith)
  | inr same ↦ steps_within a p i q j same.1
]
