-- What a heap's clauses say of a queue.
use Rattle.std.proofs.Common.{◌≡◌, ℕ, ◌<◌, ◌≤◌, ◌⊎◌, inl, inr, false, List, [], ◌∷◌, refl, sym}
use Rattle.std.proofs.Common.{subst, arith, Contains, map, zero, suc}
use Rattle.std.specs.BinaryHeap.{lt_by_cmp, IsUpperBound, IsHeap, PopsGreatest}
use Rattle.std.specs.List.{AllByRecursion}
use Rattle.std.specs.List.Sorted.{IsPermutation}
use Rattle.std.specs.Ordering.{nat_cmp, ordering_then, is_lt, MatchOrdering}
use Rattle.std.specs.declared.cmp.Ordering.{Ordering}
use Rattle.std.specs.declared.cmp.Ordering.TheVariants.{Less, Equal, Greater}
use Rattle.std.proofs.lemmas.Cmp.{ranked}
use Rattle.std.proofs.lemmas.List.Sorted.{Contains-permutation, IsPermutation-sym}
use Rattle.std.proofs.lemmas.List.Sorted.{IsPermutation-map, length_permutation}
use Rattle.ix_least.specs.declared.queue.Entry.{Entry}
use Rattle.ix_least.specs.declared.queue.Near.{Near}
use Rattle.ix_least.specs.Queue.{Adds, Takes, TakesPoint, Precedes, entry_cmp, near_cmp, near_entry}

-- what two comparisons say where the first entry isn't less
not_less : (a b : Ordering) (k l d e : ℕ) → MatchOrdering a (l < k) (l ≡ k) (k < l) →
    MatchOrdering b (e < d) (e ≡ d) (d < e) → is_lt (ordering_then a b) ≡ false →
    (k < l) ⊎ ((k ≡ l) × (d ≤ e))
not_less Less b k l d e p q h = cc
not_less Greater b k l d e p q h = inl p
not_less Equal Less k l d e p q h = cc
not_less Equal Equal k l d e p q h = inr (sym p, omega arith)
not_less Equal Greater k l d e p q h = inr (sym p, omega arith)

not_less_near : (b : Ordering) (d e : ℕ) → MatchOrdering b (e < d) (e ≡ d) (d < e) →
    is_lt b ≡ false → (d < e) ⊎ (d ≡ e)
not_less_near Less d e q h = cc
not_less_near Equal d e q h = inr (sym q)
not_less_near Greater d e q h = inl q

-- an entry that isn't less than another comes no later
pub precedes_from_order : (x y : Entry) → lt_by_cmp entry_cmp x y ≡ false → Precedes x.key x.dist y
precedes_from_order x y h = not_less (nat_cmp y.key x.key) (nat_cmp y.dist x.dist)
    x.key y.key x.dist y.dist (ranked y.key x.key _ refl)
    (ranked y.dist x.dist _ refl) h

-- what holds of each element by recursion holds of one
by_recursion : {X : Type 0} (P : X → Type 0) (xs : List X) (x : X) → AllByRecursion P xs →
    Contains xs x → P x
by_recursion P [] x a h = absurd (omega arith)
by_recursion P (y ∷ ys) x a (zero, below, is) = subst P is a.0
by_recursion P (y ∷ ys) x a (suc k, below, is) = by_recursion P ys x a.1 (k, omega arith, is)

-- a list's first element, or one of the others
pub cons_cases : {X : Type 0} (x y : X) (xs : List X) → Contains (x ∷ xs) y →
    (y ≡ x) ⊎ Contains xs y
cons_cases x y xs (zero, below, is) = inl (sym is)
cons_cases x y xs (suc k, below, is) = inr (k, omega arith, is)

pub in_cons : {X : Type 0} (x y : X) (xs : List X) → Contains xs y → Contains (x ∷ xs) y
in_cons x y xs (k, below, is) = (suc k, omega arith, is)

pub adds_from_push : (entry : Entry) (old new : List Entry) → IsPermutation (entry ∷ old) new →
    Adds entry old new
adds_from_push entry old new p = record {
  grows = omega (arith, length_permutation (entry ∷ old) new p);
  has = Contains-permutation (entry ∷ old) new entry p (zero, omega arith, refl);
  keeps = λ e h. Contains-permutation (entry ∷ old) new e p (in_cons entry e old h);
  adds_no_other = λ e h. cons_cases entry e old (Contains-permutation new (entry ∷ old) e
      (IsPermutation-sym (entry ∷ old) new p) h);
}

-- an entry is taken before which none comes
takes_from : (entry : Entry) (old new : List Entry) → IsPermutation old (entry ∷ new) →
    AllByRecursion (λ e. Precedes entry.key entry.dist e) old → Takes entry old new
takes_from entry old new p all = record {
  shrinks = omega (arith, length_permutation old (entry ∷ new) p);
  had = Contains-permutation (entry ∷ new) old entry (IsPermutation-sym old (entry ∷ new) p)
      (zero, omega arith, refl);
  first = λ e h. by_recursion (λ y. Precedes entry.key entry.dist y) old e all h;
  keeps = λ e h. cons_cases entry e new (Contains-permutation old (entry ∷ new) e p h);
  adds_none = λ e h. Contains-permutation (entry ∷ new) old e
      (IsPermutation-sym old (entry ∷ new) p) (in_cons entry e new h);
}

all_later : (x : Entry) (old : List Entry) → IsUpperBound entry_cmp x old →
    AllByRecursion (λ e. Precedes x.key x.dist e) old
all_later x [] h = tt
all_later x (y ∷ ys) h = (precedes_from_order x y h.0, all_later x ys h.1)

-- what a pop of a heap in order took
pub takes_from_pop : (entry : Entry) (old new : List Entry) → IsHeap entry_cmp old →
    IsPermutation old (entry ∷ new) → PopsGreatest entry_cmp old entry new →
    TakesPoint entry.point old new
takes_from_pop entry old new heap p g = record {
  key = entry.key;
  dist = entry.dist;
  takes =
      takes_from entry old new p (all_later entry old (g heap).1);
}

-- the same of points whose keys are their costs
near_precedes : (x y : Near) → lt_by_cmp near_cmp x y ≡ false →
    Precedes x.dist x.dist (near_entry y)
near_precedes x y h =
    elim (not_less_near (nat_cmp y.dist x.dist) x.dist y.dist (ranked y.dist x.dist _ refl) h) [
      | inl less ↦ inl less
      | inr same ↦
          inr (same, omega arith)
    ]

all_near_later : (x : Near) (old : List Near) → IsUpperBound near_cmp x old →
    AllByRecursion (λ e. Precedes x.dist x.dist e) (map near_entry old)
all_near_later x [] h = tt
all_near_later x (y ∷ ys) h = (near_precedes x y h.0, all_near_later x ys h.1)

pub near_takes_from_pop : (near : Near) (old new : List Near) → IsHeap near_cmp old →
    IsPermutation old (near ∷ new) → PopsGreatest near_cmp old near new →
    TakesPoint near.point (map near_entry old) (map near_entry new)
near_takes_from_pop near old new heap p g = record {
  key = near.dist;
  dist = near.dist;
  takes =
      takes_from (near_entry near) (map near_entry old) (map near_entry new)
      (IsPermutation-map near_entry old (near ∷ new) p) (all_near_later near old (g heap).1);
}

pub near_adds_from_push : (near : Near) (old new : List Near) → IsPermutation (near ∷ old) new →
    (key : ℕ) → key ≡ near.dist → Adds (record { key = key; dist = near.dist; point = near.point })
    (map near_entry old) (map near_entry new)
near_adds_from_push near old new p key same =
    subst (λ (k : ℕ). Adds (record { key = k; dist = near.dist; point = near.point })
    (map near_entry old) (map near_entry new)) (sym same)
    (adds_from_push (near_entry near) (map near_entry old) (map near_entry new)
    (IsPermutation-map near_entry (near ∷ old) new p))
