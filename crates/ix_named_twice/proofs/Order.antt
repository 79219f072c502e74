-- The order of places in the walk.
use Rattle.std.proofs.Common.{◌∙◌, ℕ, List, [], ◌∷◌, ◌++◌}
use Rattle.std.proofs.Common.{refl, inl, inr, arith}
use Rattle.ix_hierarchy.specs.Hierarchy.{Path}
use Rattle.ix_hierarchy.specs.Walk.{IsBefore, IsLess, InstanceAt, NetAt, Spot, TopBit, key, steps}

less_irrefl : (a : List ℕ) → IsLess a a → ⊥
less_irrefl [] h = h
less_irrefl (x ∷ a) (inl h) = omega arith
less_irrefl (x ∷ a) (inr h) = less_irrefl a h.1

less_trans : (a b c : List ℕ) → IsLess a b → IsLess b c → IsLess a c
less_trans [] [] c h k = absurd h
less_trans [] (y ∷ b) [] h k = absurd k
less_trans [] (y ∷ b) (z ∷ c) h k = tt
less_trans (x ∷ a) [] c h k = absurd h
less_trans (x ∷ a) (y ∷ b) [] h k = absurd k
less_trans (x ∷ a) (y ∷ b) (z ∷ c) (inl h) (inl k) = inl (omega arith)
less_trans (x ∷ a) (y ∷ b) (z ∷ c) (inl h) (inr k) = let e = k.0 in inl (omega arith)
less_trans (x ∷ a) (y ∷ b) (z ∷ c) (inr h) (inl k) = let e = h.0 in inl (omega arith)
less_trans (x ∷ a) (y ∷ b) (z ∷ c) (inr h) (inr k) = inr (h.0 ∙ k.0, less_trans a b c h.1 k.1)

-- what is before a list is before all that go on from it
less_more : (a b c : List ℕ) → IsLess a b → IsLess a (b ++ c)
less_more [] [] c h = absurd h
less_more [] (y ∷ b) c h = tt
less_more (x ∷ a) [] c h = absurd h
less_more (x ∷ a) (y ∷ b) c (inl h) = inl h
less_more (x ∷ a) (y ∷ b) c (inr h) = inr (h.0, less_more a b c h.1)

-- an instance's own nets are before what is behind it
net_less : (q p : Path) (net : ℕ) → IsLess (steps q) (steps p)
    → IsLess (steps q ++ 0 ∷ net ∷ []) (steps p)
net_less [] [] net h = absurd h
net_less [] (y ∷ p) net h = inl (omega arith)
net_less (x ∷ q) [] net h = absurd h
net_less (x ∷ q) (y ∷ p) net (inl h) = absurd (omega arith)
net_less (x ∷ q) (y ∷ p) net (inr (e, inl h)) = inr (refl, inl h)
net_less (x ∷ q) (y ∷ p) net (inr (e, inr h)) = inr (refl, inr (h.0, net_less q p net h.1))

pub not_before : (a : Spot) → IsBefore a a → ⊥
not_before a h = less_irrefl (key a) h

pub before_trans : (a b c : Spot) → IsBefore a b → IsBefore b c → IsBefore a c
before_trans a b c x y = less_trans (key a) (key b) (key c) x y

pub leaf_before_net : (p q : Path) (net : ℕ) → IsBefore (InstanceAt p) (InstanceAt q)
    → IsBefore (InstanceAt p) (NetAt q net)
leaf_before_net p q net (inl h) = absurd (omega arith)
leaf_before_net p q net (inr h) = inr (refl, less_more (steps p) (steps q) (0 ∷ net ∷ []) h.1)

pub net_before_leaf : (q p : Path) (net : ℕ) → IsBefore (InstanceAt q) (InstanceAt p)
    → IsBefore (NetAt q net) (InstanceAt p)
net_before_leaf q p net (inl h) = absurd (omega arith)
net_before_leaf q p net (inr h) = inr (refl, net_less q p net h.1)

pub bit_before_leaf : (place index : ℕ) (p : Path)
    → IsBefore (TopBit place index) (InstanceAt p)
bit_before_leaf place index p = inl (omega arith)

pub bit_before_net : (place index : ℕ) (q : Path) (net : ℕ)
    → IsBefore (TopBit place index) (NetAt q net)
bit_before_net place index q net = inl (omega arith)
