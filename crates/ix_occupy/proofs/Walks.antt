-- A turn of the walks over the touched nodes.
use Rattle.std.proofs.Common.{◌≡◌, ◌<◌, ◌≤◌, ◌↔◌, IsTrue, ap, sym, subst, ◌∙◌, ℕ, ◌+◌, Bool, false}
use Rattle.std.proofs.Common.{List, take, length, get_or, set, Option, Some, None, get_or-set_other}
use Rattle.std.proofs.Common.{get_or-set_same, ◌⊎◌, inl, inr, arith}
use Rattle.std.specs.Option.{IfSome, IfNone}
use Rattle.std.proofs.lemmas.Bool.{cases_eq, cases_lt, false≢true}
use Rattle.std.proofs.lemmas.List.{length-set, get_or_default}
use Rattle.ix_occupy.specs.declared.loads.NodeLoad.{NodeLoad}
use Rattle.ix_occupy.specs.Steps.{times}
use Rattle.ix_occupy.specs.Kept.{kept_at, blank, at_end, EndsAt, IsLeastShared, IsLesser}
use Rattle.ix_occupy.proofs.Counting.{hit, one_self, none_other, times_more, none_before}

-- the end of a round counted at one node more
pub ends_more : (before now : List NodeLoad) (nodes : List ℕ) (i : ℕ) → i < length nodes
    → EndsAt before now (take i nodes)
    → times (get_or nodes i 0) nodes ≤ 1 → get_or nodes i 0 < length now
    → EndsAt before (set now (get_or nodes i 0) (at_end (kept_at now (get_or nodes i 0))))
    (take (i + 1) nodes)
ends_more before now nodes i h walked once inside = record {
  nodes = length-set now (get_or nodes i 0) (at_end (kept_at now (get_or nodes i 0)))
      ∙ walked.nodes;
  here = λ m some. here m some (cases_eq m (get_or nodes i 0));
  others = λ m none. others m none (cases_eq m (get_or nodes i 0));
}
  where
    fresh : kept_at now (get_or nodes i 0) ≡ kept_at before (get_or nodes i 0)
    fresh = walked.others (get_or nodes i 0) (none_before nodes i h once)

    here : (m : ℕ) → 0 < times m (take (i + 1) nodes)
        → (m ≡ get_or nodes i 0) ⊎ (m ≡ get_or nodes i 0 → ⊥)
        → kept_at (set now (get_or nodes i 0) (at_end (kept_at now (get_or nodes i 0)))) m
        ≡ at_end (kept_at before m)
    here m some (inl e) =
        subst (λ (n : ℕ). kept_at (set now (get_or nodes i 0)
        (at_end (kept_at now (get_or nodes i 0)))) n ≡ at_end (kept_at before n)) (sym e)
        (get_or-set_same now (get_or nodes i 0) (at_end (kept_at now (get_or nodes i 0))) blank
        inside ∙ ap at_end fresh)
    here m some (inr ne) =
        let more : times m (take (i + 1) nodes)
        ≡ times m (take i nodes) + hit (get_or nodes i 0) m = times_more m nodes i h in
        let none : hit (get_or nodes i 0) m ≡ 0 = none_other (get_or nodes i 0) m
        (λ e. ne (sym e)) in
        let was : 0 < times m (take i nodes) = omega arith in
        get_or-set_other now (get_or nodes i 0) m (at_end (kept_at now (get_or nodes i 0))) blank ne
        ∙ walked.here m was

    others : (m : ℕ) → times m (take (i + 1) nodes) ≡ 0
        → (m ≡ get_or nodes i 0) ⊎ (m ≡ get_or nodes i 0 → ⊥)
        → kept_at (set now (get_or nodes i 0) (at_end (kept_at now (get_or nodes i 0)))) m
        ≡ kept_at before m
    others m none (inl e) =
        let more : times m (take (i + 1) nodes)
        ≡ times m (take i nodes) + hit (get_or nodes i 0) m = times_more m nodes i h in
        let own : hit (get_or nodes i 0) m ≡ 1 = subst (λ (n : ℕ). hit n m ≡ 1) e (one_self m) in
        absurd (omega arith)
    others m none (inr ne) =
        let more : times m (take (i + 1) nodes)
        ≡ times m (take i nodes) + hit (get_or nodes i 0) m = times_more m nodes i h in
        let was : times m (take i nodes) ≡ 0 = omega arith in
        get_or-set_other now (get_or nodes i 0) m (at_end (kept_at now (get_or nodes i 0))) blank ne
        ∙ walked.others m was

pub ends_next : (before now : List NodeLoad) (nodes : List ℕ) (i node : ℕ) (new : NodeLoad)
    → i < length nodes
    → EndsAt before now (take i nodes) → ((n : ℕ) → times n nodes ≤ 1) → node < length now
    → node ≡ get_or nodes i node → new ≡ at_end (kept_at now node)
    → EndsAt before (set now node new) (take (i + 1) nodes)
ends_next before now nodes i node new h walked once inside node_is new_is =
    let e : get_or nodes i 0 ≡ node = get_or_default nodes i 0 node h ∙ sym node_is in
    let inside' : get_or nodes i 0 < length now = omega (arith, e) in
    let same : set now (get_or nodes i 0) (at_end (kept_at now (get_or nodes i 0)))
    ≡ set now node new =
    ap (λ (n : ℕ). set now n (at_end (kept_at now n))) e
    ∙ ap (λ (x : NodeLoad). set now node x) (sym new_is) in
    subst (λ (s : List NodeLoad). EndsAt before s (take (i + 1) nodes)) same
    (ends_more before now nodes i h walked (once (get_or nodes i 0)) inside')

-- the least shared node, one node further: it is shared, and the lesser of it and the one before
pub least_takes : (loads : List NodeLoad) (nodes : List ℕ) (i node least : ℕ) (before : Option ℕ)
    → i < length nodes
    → IsLeastShared loads (take i nodes) before → node ≡ get_or nodes i node
    → 2 ≤ (kept_at loads node).holders
    → IsLesser before node least → IsLeastShared loads (take (i + 1) nodes) (Some least)
least_takes loads nodes i node least None h found is shared lesser = record {
  none = tt;
  shared = subst (λ (n : ℕ). 2 ≤ (kept_at loads n).holders) (sym lesser) shared;
  least = λ m some held. by m some held (cases_eq (get_or nodes i 0) m);
}
  where
    by : (m : ℕ) → 0 < times m (take (i + 1) nodes) → 2 ≤ (kept_at loads m).holders
        → (get_or nodes i 0 ≡ m) ⊎ (get_or nodes i 0 ≡ m → ⊥) → least ≤ m
    by m some held (inl e) =
        let at : get_or nodes i 0 ≡ node = get_or_default nodes i 0 node h ∙ sym is in
        omega arith
    by m some held (inr ne) =
        let more : times m (take (i + 1) nodes)
        ≡ times m (take i nodes) + hit (get_or nodes i 0) m = times_more m nodes i h in
        let zero : hit (get_or nodes i 0) m ≡ 0 = none_other (get_or nodes i 0) m ne in
        let was : 0 < times m (take i nodes) = omega arith in
        let few : (kept_at loads m).holders < 2 = found.none m was in
        absurd (omega arith)
least_takes loads nodes i node least (Some first) h found is shared lesser = record {
  none = tt;
  shared = by-shared lesser.one;
  least = λ m some held. by m some held (cases_eq (get_or nodes i 0) m);
}
  where
    by-shared : (least ≡ first) ⊎ (least ≡ node) → 2 ≤ (kept_at loads least).holders
    by-shared (inl e) = subst (λ (n : ℕ). 2 ≤ (kept_at loads n).holders) (sym e) found.shared
    by-shared (inr e) = subst (λ (n : ℕ). 2 ≤ (kept_at loads n).holders) (sym e) shared

    by : (m : ℕ) → 0 < times m (take (i + 1) nodes) → 2 ≤ (kept_at loads m).holders
        → (get_or nodes i 0 ≡ m) ⊎ (get_or nodes i 0 ≡ m → ⊥) → least ≤ m
    by m some held (inl e) =
        let at : get_or nodes i 0 ≡ node = get_or_default nodes i 0 node h ∙ sym is in
        let below : least ≤ node = lesser.not_above_node in
        omega arith
    by m some held (inr ne) =
        let more : times m (take (i + 1) nodes)
        ≡ times m (take i nodes) + hit (get_or nodes i 0) m = times_more m nodes i h in
        let zero : hit (get_or nodes i 0) m ≡ 0 = none_other (get_or nodes i 0) m ne in
        let was : 0 < times m (take i nodes) = omega arith in
        let below : first ≤ m = found.least m was held in
        let less : least ≤ first = lesser.not_above_before in
        omega arith

-- and where it isn't shared
pub least_stays : (loads : List NodeLoad) (nodes : List ℕ) (i node : ℕ) (before : Option ℕ)
    → i < length nodes
    → IsLeastShared loads (take i nodes) before → node ≡ get_or nodes i node
    → (kept_at loads node).holders < 2
    → IsLeastShared loads (take (i + 1) nodes) before
least_stays loads nodes i node before h found is few = record {
  none = by-none before found.none;
  shared = found.shared;
  least = by-least before found.least;
}
  where
    was : (m : ℕ) → 0 < times m (take (i + 1) nodes) → (get_or nodes i 0 ≡ m → ⊥)
        → 0 < times m (take i nodes)
    was m some ne =
        let more : times m (take (i + 1) nodes)
        ≡ times m (take i nodes) + hit (get_or nodes i 0) m = times_more m nodes i h in
        let zero : hit (get_or nodes i 0) m ≡ 0 = none_other (get_or nodes i 0) m ne in
        omega arith

    at : (m : ℕ) → get_or nodes i 0 ≡ m → (kept_at loads m).holders < 2
    at m e = subst (λ (n : ℕ). (kept_at loads n).holders < 2)
        (is ∙ (get_or_default nodes i node 0 h ∙ e)) few

    none-at : (m : ℕ) → 0 < times m (take (i + 1) nodes)
        → ((m : ℕ) → 0 < times m (take i nodes) → (kept_at loads m).holders < 2)
        → (get_or nodes i 0 ≡ m) ⊎ (get_or nodes i 0 ≡ m → ⊥) → (kept_at loads m).holders < 2
    none-at m some held (inl e) = at m e
    none-at m some held (inr ne) = held m (was m some ne)

    by-none : (o : Option ℕ) → IfNone o ((m : ℕ) → 0 < times m (take i nodes)
        → (kept_at loads m).holders < 2)
        → IfNone o ((m : ℕ) → 0 < times m (take (i + 1) nodes) → (kept_at loads m).holders < 2)
    by-none None held = λ m some. none-at m some held (cases_eq (get_or nodes i 0) m)
    by-none (Some _) held = tt

    least-at : (first m : ℕ) → 0 < times m (take (i + 1) nodes) → 2 ≤ (kept_at loads m).holders
        → ((m : ℕ) → 0 < times m (take i nodes) → 2 ≤ (kept_at loads m).holders → first ≤ m)
        → (get_or nodes i 0 ≡ m) ⊎ (get_or nodes i 0 ≡ m → ⊥) → first ≤ m
    least-at first m some shared held (inl e) = let low : (kept_at loads m).holders < 2 = at m e in
        absurd (omega arith)
    least-at first m some shared held (inr ne) = held m (was m some ne) shared

    by-least : (o : Option ℕ) → IfSome o (λ first. (m : ℕ) → 0 < times m (take i nodes)
        → 2 ≤ (kept_at loads m).holders → first ≤ m)
        → IfSome o (λ first. (m : ℕ) → 0 < times m (take (i + 1) nodes)
        → 2 ≤ (kept_at loads m).holders → first ≤ m)
    by-least None held = tt
    by-least (Some first) held = λ m some shared. least-at first m some shared held
        (cases_eq (get_or nodes i 0) m)

-- what a test that says no means
pub not_shared : (b : Bool) (n : ℕ) → (IsTrue b ↔ (2 ≤ n)) → b ≡ false → n < 2
not_shared b n h e = by (cases_lt n 2)
  where
    by : (n < 2) ⊎ (2 ≤ n) → n < 2
    by (inl few) = few
    by (inr many) = absurd (false≢true (sym e ∙ h.1 many))
