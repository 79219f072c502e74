-- Chains of crossings, and roots that are joined along them.
use Rattle.std.proofs.Common.{ℕ, List, [], ◌∷◌, ◌++◌, sym, subst, inl, inr}
use Rattle.ix_rec.specs.declared.netlist.NetlistRec.{NetlistRec}
use Rattle.ix_hierarchy.specs.declared.instance.Instance.{Instance}
use Rattle.ix_hierarchy.specs.Hierarchy.{Path}
use Rattle.ix_hierarchy.specs.Lists.{IsNumber}
use Rattle.ix_hierarchy.specs.Nets.{Occurrence, Enters, Cross, IsChain, AreOneNet}
use Rattle.ix_roots.specs.Forest.{Joins}
use Rattle.ix_one_net.specs.Joining.{AreSound}

chain_on : (design : NetlistRec) (a b c d : Occurrence) (first second : List Occurrence)
    → IsChain design a first b → Cross design b c → IsChain design c second d
    → IsChain design a (first ++ c ∷ second) d
chain_on design a b c d [] second h x k =
    (subst (λ (o : Occurrence). Cross design o c) (sym h) x, k)
chain_on design a b c d (n ∷ first) second h x k =
    (h.0, chain_on design n b c d first second h.1 x k)

-- two nets with a crossing between them are one
pub through : (design : NetlistRec) (a b c d : Occurrence) → AreOneNet design a b
    → Cross design b c → AreOneNet design c d → AreOneNet design a d
through design a b c d h x k =
    (h.0 ++ c ∷ k.0, chain_on design a b c d h.0 k.0 h.1 x k.1)

-- roots stay sound as two numbers are joined that cross
pub sound_joined : (design : NetlistRec) (all : List Instance) (paths : List Path)
    (before now : ℕ → ℕ) (x y : ℕ) (upper lower : Occurrence)
    → AreSound design all paths before → Joins before now x y
    → IsNumber design all paths upper x → IsNumber design all paths lower y
    → Enters design upper lower → AreSound design all paths now
sound_joined design all paths before now x y upper lower S J N M E =
    λ a b u v A B same. elim (J.only u v same) [
      | inl w ↦ S a b u v A B w
      | inr w ↦ elim w [
        | inl h ↦ through design a upper lower b (S a upper u x A N h.0) (inl E)
            (S lower b y v M B (sym h.1))
        | inr h ↦ through design a lower upper b (S a lower u y A M h.0) (inr E)
            (S upper b x v N B (sym h.1))
      ]
    ]
