-- Whether a net holds a node, and whether a step may follow.
use Rattle.std.proofs.Common.{◌≡◌, ◌<◌, ◌↔◌, IsTrue, refl, ap, sym, subst, ◌∙◌, ℕ, ◌+◌, Bool, true}
use Rattle.std.proofs.Common.{false, cond, ◌&&◌, ◌||◌, not, nat_eq, List, [], ◌∷◌, ◌++◌, take}
use Rattle.std.proofs.Common.{length, get_or, ◌⊎◌, inl, inr, arith}
use Rattle.std.specs.List.{Contains}
use Rattle.std.proofs.lemmas.Bool.{cases_eq, eq-eqb, ne_eqb, false≢true}
use Rattle.std.proofs.lemmas.List.{append-nil, take_more, take_at, get_or_at, length-append}
use Rattle.ix_occupy.specs.declared.steps.Step.{Step}
use Rattle.ix_occupy.specs.declared.steps.Step.TheVariants.{Claim, Release, End}
use Rattle.ix_occupy.specs.Steps.{holders, times, MayFollow, IsLawful}
use Rattle.ix_occupy.specs.Held.{held_after}
use Rattle.ix_occupy.proofs.Counting.{hit, none_other, times_push}
use Rattle.ix_occupy.proofs.Holding.{holders_push-claim, holders_push-release, holders_push-end}
use Rattle.ix_occupy.proofs.Holding.{all_but, times-cons, contained_times, times_contained}

-- a test says whether a number is above 0
abbrev pub Tells : Bool → ℕ → Type 0
Tells b n = ((b ≡ true) × (0 < n)) ⊎ ((b ≡ false) × (n ≡ 0))

-- without one net, that one stands there no more, and each other as often
times-all_but : (m net : ℕ) (nets : List ℕ) → times net (all_but m nets)
    ≡ cond (nat_eq m net) 0 (times net nets)
times-all_but m net [] = by (nat_eq m net)
  where
    by : (b : Bool) → times net [] ≡ cond b 0 (times net [])
    by true = refl
    by false = refl
times-all_but m net (x ∷ nets) =
    by (cases_eq m x) (cases_eq m net) (times-all_but m net nets) (times-cons net x nets)
    (times-cons net x (all_but m nets))
  where
    by : (m ≡ x) ⊎ (m ≡ x → ⊥) → (m ≡ net) ⊎ (m ≡ net → ⊥)
        → times net (all_but m nets) ≡ cond (nat_eq m net) 0 (times net nets)
        → times net (x ∷ nets) ≡ hit x net + times net nets
        → times net (x ∷ all_but m nets) ≡ hit x net + times net (all_but m nets)
        → times net (cond (not (nat_eq m x)) (x ∷ all_but m nets) (all_but m nets))
        ≡ cond (nat_eq m net) 0 (times net (x ∷ nets))
    by (inl here) (inl own) rest count count' =
        ap (λ b. times net (cond (not b) (x ∷ all_but m nets) (all_but m nets))) (eq-eqb m x here)
        ∙ (rest ∙ (ap (λ b. cond b 0 (times net nets)) (eq-eqb m net own)
        ∙ ap (λ b. cond b 0 (times net (x ∷ nets))) (sym (eq-eqb m net own))))
    by (inl here) (inr other) rest count count' =
        let none : hit x net ≡ 0 = none_other x net (λ e. other (here ∙ e)) in
        let same : times net nets ≡ times net (x ∷ nets) = omega arith in
        ap (λ b. times net (cond (not b) (x ∷ all_but m nets) (all_but m nets))) (eq-eqb m x here)
        ∙ (rest ∙ (ap (λ b. cond b 0 (times net nets)) (ne_eqb m net other)
        ∙ (same ∙ ap (λ b. cond b 0 (times net (x ∷ nets))) (sym (ne_eqb m net other)))))
    by (inr there) (inl own) rest count count' =
        let none : hit x net ≡ 0 = none_other x net (λ e. there (own ∙ sym e)) in
        let gone : times net (all_but m nets) ≡ 0 = rest
        ∙ ap (λ b. cond b 0 (times net nets)) (eq-eqb m net own) in
        let all : times net (x ∷ all_but m nets) ≡ 0 = omega arith in
        ap (λ b. times net (cond (not b) (x ∷ all_but m nets) (all_but m nets))) (ne_eqb m x there)
        ∙ (all ∙ ap (λ b. cond b 0 (times net (x ∷ nets))) (sym (eq-eqb m net own)))
    by (inr there) (inr other) rest count count' =
        let same : times net (all_but m nets) ≡ times net nets = rest
        ∙ ap (λ b. cond b 0 (times net nets)) (ne_eqb m net other) in
        let all : times net (x ∷ all_but m nets) ≡ times net (x ∷ nets) = omega arith in
        ap (λ b. times net (cond (not b) (x ∷ all_but m nets) (all_but m nets))) (ne_eqb m x there)
        ∙ (all ∙ ap (λ b. cond b 0 (times net (x ∷ nets))) (sym (ne_eqb m net other)))

-- the test after one step more
held_push : (steps : List Step) (step : Step) (net node : ℕ) (held : Bool)
    → Tells held (times net (holders steps node))
    → Tells (held_after held step net node) (times net (holders (steps ++ step ∷ []) node))
held_push steps (Claim m q) net node held tells =
    subst (Tells (held || (nat_eq m net && nat_eq q node))) (sym count)
    (by held (nat_eq m net) (nat_eq q node) tells)
  where
    adds : (b : Bool) → times net (holders steps node ++ cond b (m ∷ []) [])
        ≡ times net (holders steps node) + cond b (hit m net) 0
    adds true = times_push net m (holders steps node)
    adds false = ap (times net) (append-nil (holders steps node)) ∙ omega arith

    count : times net (holders (steps ++ Claim m q ∷ []) node)
        ≡ times net (holders steps node) + cond (nat_eq q node) (hit m net) 0
    count = ap (times net) (holders_push-claim steps m q node) ∙ adds (nat_eq q node)

    by : (h a b : Bool) → Tells h (times net (holders steps node))
        → Tells (h || (a && b)) (times net (holders steps node) + cond b (cond a 1 0) 0)
    by true a true (inl t) = inl (refl, omega (arith, t.1))
    by true a false (inl t) = inl (refl, omega (arith, t.1))
    by true a b (inr t) = absurd (false≢true (sym t.0))
    by false a b (inl t) = absurd (false≢true t.0)
    by false true true (inr t) = inl (refl, omega (arith, t.1))
    by false true false (inr t) = inr (refl, omega (arith, t.1))
    by false false true (inr t) = inr (refl, omega (arith, t.1))
    by false false false (inr t) = inr (refl, omega (arith, t.1))
held_push steps (Release m q) net node held tells =
    subst (Tells (held && not (nat_eq m net && nat_eq q node))) (sym count)
    (by held (nat_eq m net) (nat_eq q node) tells)
  where
    takes : (b : Bool) → times net (cond b (all_but m (holders steps node)) (holders steps node))
        ≡ cond b (cond (nat_eq m net) 0 (times net (holders steps node)))
        (times net (holders steps node))
    takes true = times-all_but m net (holders steps node)
    takes false = refl

    count : times net (holders (steps ++ Release m q ∷ []) node)
        ≡ cond (nat_eq q node) (cond (nat_eq m net) 0 (times net (holders steps node)))
        (times net (holders steps node))
    count = ap (times net) (holders_push-release steps m q node) ∙ takes (nat_eq q node)

    by : (h a b : Bool) → Tells h (times net (holders steps node))
        → Tells (h && not (a && b)) (cond b (cond a 0 (times net (holders steps node)))
        (times net (holders steps node)))
    by h a b (inl t) = inside h a b t
      where
        inside : (h a b : Bool) → (h ≡ true) × (0 < times net (holders steps node))
            → Tells (h && not (a && b)) (cond b (cond a 0 (times net (holders steps node)))
            (times net (holders steps node)))
        inside true true true t = inr (refl, refl)
        inside true true false t = inl (refl, t.1)
        inside true false true t = inl (refl, t.1)
        inside true false false t = inl (refl, t.1)
        inside false a b t = absurd (false≢true t.0)
    by h a b (inr t) = outside h a b t
      where
        outside : (h a b : Bool) → (h ≡ false) × (times net (holders steps node) ≡ 0)
            → Tells (h && not (a && b)) (cond b (cond a 0 (times net (holders steps node)))
            (times net (holders steps node)))
        outside true a b t = absurd (false≢true (sym t.0))
        outside false true true t = inr (refl, refl)
        outside false true false t = inr (refl, t.1)
        outside false false true t = inr (refl, t.1)
        outside false false false t = inr (refl, t.1)
held_push steps End net node held tells =
    subst (λ (nets : List ℕ). Tells held (times net nets)) (sym (holders_push-end steps node)) tells

pub held_none : (net node : ℕ) → Tells false (times net (holders [] node))
unfolding holders
held_none net node = inr (refl, refl)

pub held_more : (steps : List Step) (i : ℕ) (item : Step) (net node : ℕ) (held now : Bool)
    → i < length steps → item ≡ get_or steps i item
    → now ≡ held_after held item net node → Tells held (times net (holders (take i steps) node))
    → Tells now (times net (holders (take (i + 1) steps) node))
held_more steps i item net node held now h is now_is tells =
    subst (λ (b : Bool). Tells b (times net (holders (take (i + 1) steps) node))) (sym now_is)
    (subst (λ (ss : List Step). Tells (held_after held item net node) (times net (holders ss node)))
    (sym (take_more steps i item h ∙ ap (λ (s : Step). take i steps ++ s ∷ []) (sym is)))
    (held_push (take i steps) item net node held tells))

-- what the test means
pub held_means : (steps : List Step) (net node : ℕ) (held : Bool)
    → Tells held (times net (holders steps node)) → IsTrue held ↔ Contains (holders steps node) net
held_means steps net node held (inl t) =
    ((λ _. times_contained (holders steps node) net t.1), (λ _. t.0))
held_means steps net node held (inr t) = (
  (λ h. absurd (false≢true (sym t.0 ∙ h))),
  (λ held'. let some : 0 < times net (holders steps node) =
      contained_times (holders steps node) net held' in absurd (omega (arith, t.1))),
)

-- a list is lawful where each step may follow those before it
pub lawful_each : (steps : List Step) → ((k : ℕ) → k < length steps
    → MayFollow (take k steps) (get_or steps k End)) → IsLawful steps
lawful_each steps each before step later e =
    let inside : length before < length steps = omega
    (arith, ap length e, length-append before (step ∷ later)) in
    let front : take (length before) steps ≡ before = ap (take (length before)) e
    ∙ take_at before (step ∷ later) (length before) refl in
    let here : get_or steps (length before) End ≡ step =
    ap (λ (ss : List Step). get_or ss (length before) End) e
    ∙ get_or_at before step later End (length before) refl in
    subst (λ (ss : List Step). MayFollow ss step) front
    (subst (λ (s : Step). MayFollow (take (length before) steps) s) here
    (each (length before) inside))
