-- How many nodes are shared, and which is the first.
use Rattle.std.proofs.Common.{◌≡◌, ◌<◌, ◌≤◌, ◌↔◌, refl, ap, sym, subst, ◌∙◌, ℕ, ◌*◌, Bool, true}
use Rattle.std.proofs.Common.{false, cond, nat_le, List, length, get_or, map, Option, Some, None}
use Rattle.std.proofs.Common.{◌⊎◌, inl, inr, arith}
use Rattle.std.specs.Prelude.{IsNone}
use Rattle.std.specs.List.{count_by, All}
use Rattle.std.specs.Option.{IfSome}
use Rattle.std.proofs.lemmas.Bool.{cases_lt, false≢true}
use Rattle.std.proofs.lemmas.List.{get_or_past, get_or_default}
use Rattle.std.proofs.lemmas.List.Sums.{get_or-le-sum_by, sum_by-le}
use Rattle.ix_occupy.specs.declared.loads.NodeLoad.{NodeLoad}
use Rattle.ix_occupy.specs.Steps.{times}
use Rattle.ix_occupy.specs.Loads.{Load, holder_count, shared_count, IsFirstShared}
use Rattle.ix_occupy.specs.Kept.{load_of, kept_at, blank, IsKept, IsLeastShared}
use Rattle.ix_occupy.proofs.Counting.{some_times}
use Rattle.ix_occupy.proofs.Views.{holders_seen, shared_seen, length_seen}
use Rattle.ix_occupy.proofs.Keeping.{sharing_of, sharing_of-few, sharing_of-many, touching_of}

-- a node of which something was kept is one of the nodes
pub inside_if : (loads : List NodeLoad) (node : ℕ) → (kept_at loads node ≡ blank → ⊥)
    → node < length loads
inside_if loads node some = by (cases_lt node (length loads))
  where
    by : (node < length loads) ⊎ (length loads ≤ node) → node < length loads
    by (inl inside) = inside
    by (inr past) = absurd (some (get_or_past loads node blank past))

pub shared_inside : (loads : List NodeLoad) (node : ℕ) → 2 ≤ (kept_at loads node).holders
    → node < length loads
shared_inside loads node held =
    inside_if loads node (λ e. let none : (kept_at loads node).holders ≡ 0 =
    ap (λ (l : NodeLoad). l.holders) e in absurd (omega arith))

-- where no node is counted none is shared
pub unshared_each : (loads : List NodeLoad) → count_by (λ l. nat_le 2 l.holders) loads ≡ 0
    → (node : ℕ) → (kept_at loads node).holders < 2
unshared_each loads none node = by (cases_lt (kept_at loads node).holders 2)
  where
    by : ((kept_at loads node).holders < 2) ⊎ (2 ≤ (kept_at loads node).holders)
        → (kept_at loads node).holders < 2
    by (inl few) = few
    by (inr many) =
        let counted : sharing_of (kept_at loads node).holders ≤ count_by
        (λ l. nat_le 2 l.holders) loads =
        get_or-le-sum_by (λ (l : NodeLoad). sharing_of l.holders) loads node blank
        (shared_inside loads node many) in
        let one : sharing_of (kept_at loads node).holders ≡ 1 =
        sharing_of-many (kept_at loads node).holders many in
        absurd (omega arith)

-- and the other way round
pub unshared_count : (loads : List NodeLoad) → ((node : ℕ) → (kept_at loads node).holders < 2)
    → count_by (λ l. nat_le 2 l.holders) loads ≡ 0
unshared_count loads few =
    let each : All (λ (l : NodeLoad). sharing_of l.holders ≤ 0) loads = λ k d inside.
    subst (λ (l : NodeLoad). sharing_of l.holders ≤ 0) (get_or_default loads k blank d inside)
    (let none : sharing_of (kept_at loads k).holders ≡ 0 =
    sharing_of-few (kept_at loads k).holders (few k) in omega arith) in
    let all : count_by (λ l. nat_le 2 l.holders) loads ≤ length loads * 0 =
    sum_by-le (λ (l : NodeLoad). sharing_of l.holders) 0 loads each in
    omega arith

-- the number of shared nodes is 0 exactly where each has fewer than two holders
pub no_shared : (view : List Load) (loads : List NodeLoad) → map load_of loads ≡ view
    → (shared_count view ≡ 0) ↔ ((node : ℕ) → holder_count view node < 2)
no_shared view loads e = (
  (λ none node. let few : (kept_at loads node).holders < 2 =
      unshared_each loads (sym (shared_seen view loads e) ∙ none) node in
      omega (arith, holders_seen view loads node e)),
  (λ few. shared_seen view loads e ∙ unshared_count loads
      (λ node. omega (arith, few node, holders_seen view loads node e))),
)

-- a touched node is one of the nodes
pub touched_inside : (loads : List NodeLoad) (touched : List ℕ) (capacity sharing : ℕ)
    → IsKept loads touched capacity sharing → All (λ n. n < length loads) touched
touched_inside loads touched capacity sharing kept k d inside =
    subst (λ (n : ℕ). n < length loads) (get_or_default touched k 0 d inside)
    (inside_if loads (get_or touched k 0)
    (λ e.
    let none : touching_of (kept_at loads (get_or touched k 0)) ≡ 0 = ap touching_of e in
    let some : 0 < times (get_or touched k 0) touched = some_times touched k inside in
    absurd (omega (arith, kept.once (get_or touched k 0)))))

-- each touched node stands once in the list
pub touched_once : (loads : List NodeLoad) (touched : List ℕ) (capacity sharing : ℕ)
    → IsKept loads touched capacity sharing → (node : ℕ) → times node touched ≤ 1
touched_once loads touched capacity sharing kept node =
    by (kept_at loads node).touched (kept.once node)
  where
    by : (b : Bool) → times node touched ≡ cond b 1 0 → times node touched ≤ 1
    by true e = omega arith
    by false e = omega arith

-- a node with holders stands there
pub held_touched : (loads : List NodeLoad) (touched : List ℕ) (capacity sharing : ℕ)
    → IsKept loads touched capacity sharing → (node : ℕ)
    → 0 < (kept_at loads node).holders → 0 < times node touched
held_touched loads touched capacity sharing kept node held =
    let as_count : Bool → ℕ = λ b. cond b 1 0 in
    let one : touching_of (kept_at loads node) ≡ 1 = ap as_count (kept.held node held) in
    omega (arith, kept.once node)

-- the least shared node of the touched is the least of all
pub first_of_all : (view : List Load) (loads : List NodeLoad) (touched : List ℕ)
    (capacity sharing : ℕ) (found : Option ℕ)
    → map load_of loads ≡ view → IsKept loads touched capacity sharing
    → IsLeastShared loads touched found
    → IfSome found (λ node. IsFirstShared view node)
first_of_all view loads touched capacity sharing None e kept least = tt
first_of_all view loads touched capacity sharing (Some node) e kept least = record {
  inside = omega (arith, length_seen view loads e, shared_inside loads node least.shared);
  shared = omega (arith, holders_seen view loads node e, least.shared);
  first = λ other below. by other below (cases_lt (kept_at loads other).holders 2);
}
  where
    by : (other : ℕ) → other < node → ((kept_at loads other).holders < 2) ⊎
        (2 ≤ (kept_at loads other).holders) → holder_count view other < 2
    by other below (inl few) = omega (arith, holders_seen view loads other e)
    by other below (inr many) =
        let some : 0 < times other touched = held_touched loads touched capacity sharing kept other
        (omega arith) in
        let above : node ≤ other = least.least other some many in
        absurd (omega arith)

-- and there is none exactly where none is counted
pub none_of_all : (view : List Load) (loads : List NodeLoad) (touched : List ℕ)
    (capacity sharing : ℕ) (found : Option ℕ)
    → map load_of loads ≡ view → IsKept loads touched capacity sharing
    → IsLeastShared loads touched found
    → IsNone found ↔ (shared_count view ≡ 0)
none_of_all view loads touched capacity sharing None e kept least = (
  (λ _. shared_seen view loads e ∙ unshared_count loads
      (λ node. by node (cases_lt (kept_at loads node).holders 2))),
  (λ _. refl),
)
  where
    by : (node : ℕ) → ((kept_at loads node).holders < 2) ⊎ (2 ≤ (kept_at loads node).holders)
        → (kept_at loads node).holders < 2
    by node (inl few) = few
    by node (inr many) =
        least.none node (held_touched loads touched capacity sharing kept node (omega arith))
none_of_all view loads touched capacity sharing (Some node) e kept least = (
  (λ h. absurd (false≢true (sym h))),
  (λ none.
      let few : (kept_at loads node).holders < 2 =
      unshared_each loads (sym (shared_seen view loads e) ∙ none) node in
      absurd (omega (arith, least.shared))),
)
