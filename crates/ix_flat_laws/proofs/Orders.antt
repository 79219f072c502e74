-- The order of places in the walk.
use Rattle.std.proofs.Common.{◌≡◌, ◌⊎◌, ◌<◌, ℕ, inl, inr, arith, refl}
use Rattle.ix_hierarchy.specs.Hierarchy.{Path}
use Rattle.ix_hierarchy.specs.Walk.{TopBit, InstanceAt, IsBefore}

-- the top's bits stand by place and index
pub bits_rise : (p i q j : ℕ) → (p < q) ⊎ ((p ≡ q) × (i < j)) → IsBefore (TopBit p i) (TopBit q j)
bits_rise p i q j (inl lt) = inr (refl, inl lt)
bits_rise p i q j (inr eq) = inr (refl, inr (eq.0, inl eq.1))

-- and before all instances
pub bit_first : (p i : ℕ) (path : Path) → IsBefore (TopBit p i) (InstanceAt path)
bit_first p i path = let e : 0 < 1 = omega arith in inl e
