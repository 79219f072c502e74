-- Each net has one first occurrence.
use Rattle.std.proofs.Common.{◌≡◌, ◌<◌, refl, sym, subst, ℕ, List, [], ◌∷◌, ◌++◌}
use Rattle.std.proofs.Common.{arith, inl, inr}
use Rattle.std.proofs.lemmas.Bool.{cases_lt}
use Rattle.ix_rec.specs.declared.netlist.NetlistRec.{NetlistRec}
use Rattle.ix_hierarchy.specs.Nets.{Occurrence, AreOneNet, Cross, IsChain, IsFirstOf}
use Rattle.ix_hierarchy.specs.Lists.{IsNumber}
use Rattle.ix_joined.specs.declared.joined.Joined.{Joined}
use Rattle.ix_joined.specs.Joining.{Known, IsJoined}

-- neither is before the other
not_apart : (a b : ℕ) → (a < b → ⊥) → (b < a → ⊥) → a ≡ b
not_apart a b x y = elim (cases_lt a b) [
  | inl less ↦ absurd (x less)
  | inr more ↦ elim (cases_lt b a) [
    | inl less ↦ absurd (y less)
    | inr less ↦ omega arith
  ]
]

-- Nets are joined both ways, and on.

pub joined_on : (design : NetlistRec) (a b c : Occurrence) → AreOneNet design a b
    → AreOneNet design b c → AreOneNet design a c
joined_on design a b c x y = (x.0 ++ y.0, by a x.0 x.1)
  where
    by : (from : Occurrence) (chain : List Occurrence) → IsChain design from chain b
        → IsChain design from (chain ++ y.0) c
    by from [] h = subst (λ (o : Occurrence). IsChain design o y.0 c) (sym h) y.1
    by from (next ∷ chain) h = (h.0, by next chain h.1)

swap : (design : NetlistRec) (a b : Occurrence) → Cross design a b → Cross design b a
swap design a b (inl h) = inr h
swap design a b (inr h) = inl h

pub joined_back : (design : NetlistRec) (a b : Occurrence) → AreOneNet design a b
    → AreOneNet design b a
joined_back design a b x = by a x.0 x.1
  where
    by : (from : Occurrence) (chain : List Occurrence) → IsChain design from chain b
        → AreOneNet design b from
    by from [] h = ([], sym h)
    by from (next ∷ chain) h =
        joined_on design b next from (by next chain h.1) (from ∷ [], (swap design from next h.0, refl))

-- a net has one first occurrence
pub one_first : (known : Known) (design : NetlistRec) (joined : Joined) (a b : Occurrence)
    (m n : ℕ) → IsJoined known design joined → IsFirstOf design a → IsFirstOf design b
    → AreOneNet design a b → IsNumber design joined.instances.items known.paths a m
    → IsNumber design joined.instances.items known.paths b n → (a ≡ b) × (m ≡ n)
one_first known design joined a b m n are x y one p q =
    let same : m ≡ n = not_apart m n
    (λ less. y.first a (joined_back design a b one) ((are.numbered.rise a b m n p q).1 less))
    (λ less. x.first b one ((are.numbered.rise b a n m q p).1 less)) in (
      are.numbered.one a b n (subst (λ k. IsNumber design joined.instances.items known.paths a k) same
          p) q,
      same,
    )
