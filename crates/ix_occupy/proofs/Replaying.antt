-- One step more of a list of steps.
use Rattle.std.proofs.Common.{◌≡◌, ◌<◌, ◌≤◌, refl, ap, sym, subst, ◌∙◌, ℕ, zero, suc, ◌+◌, ◌-◌, ◌^◌}
use Rattle.std.proofs.Common.{min, Bool, true, false, cond, nat_eq, List, [], ◌∷◌, ◌++◌, take, drop}
use Rattle.std.proofs.Common.{length, get_or, ◌⊎◌, inl, inr, arith}
use Rattle.std.specs.List.{count_by, Contains}
use Rattle.std.proofs.lemmas.Bool.{cases_eq, cases_lt, eq-eqb, ne_eqb, le-leb, lt-leb}
use Rattle.std.proofs.lemmas.List.{append-nil, length_push, take-append-drop, drop_more, take_more}
use Rattle.std.proofs.lemmas.List.{take_all, length-take-le, get_or_default}
use Rattle.std.proofs.lemmas.List.Sums.{sum_by_push}
use Rattle.ix_occupy.specs.declared.steps.Step.{Step}
use Rattle.ix_occupy.specs.declared.steps.Step.TheVariants.{Claim, Release, End}
use Rattle.ix_occupy.specs.Steps.{holders, times, before_ends, hist, is_shared_after, most_hist}
use Rattle.ix_occupy.specs.Steps.{MayFollow, IsLawful}
use Rattle.ix_occupy.specs.Loads.{Load, holder_count, hist_at, Recounts, EndsRound, IsAfter}
use Rattle.ix_occupy.proofs.Counting.{hit, one_self, none_other, times_push}
use Rattle.ix_occupy.proofs.Holding.{holders_push-claim, holders_push-release, holders_push-end}
use Rattle.ix_occupy.proofs.Holding.{holders-few, before_ends_push-claim, before_ends_push-release}
use Rattle.ix_occupy.proofs.Holding.{before_ends_push-end, all_but, all_but-times, all_but-length}
use Rattle.ix_occupy.proofs.Holding.{contained_times, times_contained}

-- a step of a lawful list may follow those before it
pub may_follow : (steps : List Step) (i : ℕ) → i < length steps → IsLawful steps
    → MayFollow (take i steps) (get_or steps i End)
may_follow steps i h lawful =
    lawful (take i steps) (get_or steps i End) (drop (i + 1) steps)
    (sym (take-append-drop i steps) ∙ ap (λ (rest : List Step). take i steps ++ rest)
    (drop_more steps i End h))

-- no net is twice among the holders
abbrev pub HoldOnce : List Step → Type 0
HoldOnce steps = (node net : ℕ) → times net (holders steps node) ≤ 1

once_push : (before : List Step) (step : Step) → MayFollow before step → HoldOnce before
    → HoldOnce (before ++ step ∷ [])
once_push before (Claim net place) may once node other =
    subst (λ (nets : List ℕ). times other nets ≤ 1) (sym (holders_push-claim before net place node))
    (by (cases_eq place node))
  where
    by : (place ≡ node) ⊎ (place ≡ node → ⊥) → times other
        (holders before node ++ cond (nat_eq place node) (net ∷ []) []) ≤ 1
    by (inl e) =
        subst (λ (b : Bool). times other (holders before node ++ cond b (net ∷ []) []) ≤ 1)
        (sym (eq-eqb place node e))
        (here (cases_eq net other))
      where
        here : (net ≡ other) ⊎ (net ≡ other → ⊥) → times other (holders before node ++ net ∷ []) ≤ 1
        here (inl same) =
            let more : times other (holders before node ++ net ∷ [])
            ≡ times other (holders before node) + hit net other =
            times_push other net (holders before node) in
            let own : hit net other ≡ 1 = subst (λ (n : ℕ). hit net n ≡ 1) same (one_self net) in
            elim (cases_lt 0 (times other (holders before node))) [
              | inl some ↦ absurd
                  (may (subst (λ (n : ℕ). Contains (holders before place) n) (sym same)
                  (subst (λ (q : ℕ). Contains (holders before q) other) (sym e)
                  (times_contained (holders before node) other some))))
              | inr none ↦ omega arith
            ]
        here (inr differs) =
            let more : times other (holders before node ++ net ∷ [])
            ≡ times other (holders before node) + hit net other =
            times_push other net (holders before node) in
            let none : hit net other ≡ 0 = none_other net other differs in
            let was : times other (holders before node) ≤ 1 = once node other in
            omega arith
    by (inr ne) =
        subst (λ (b : Bool). times other (holders before node ++ cond b (net ∷ []) []) ≤ 1)
        (sym (ne_eqb place node ne))
        (subst (λ (nets : List ℕ). times other nets ≤ 1) (sym (append-nil (holders before node)))
        (once node other))
once_push before (Release net place) may once node other =
    subst (λ (nets : List ℕ). times other nets ≤ 1)
    (sym (holders_push-release before net place node)) (by (nat_eq place node))
  where
    by : (b : Bool) → times other (cond b (all_but net (holders before node)) (holders before node))
        ≤ 1
    by true =
        let fewer : times other (all_but net (holders before node)) ≤ times other
        (holders before node) = all_but-times net (holders before node) other in
        let was : times other (holders before node) ≤ 1 = once node other in
        omega arith
    by false = once node other
once_push before End may once node other =
    subst (λ (nets : List ℕ). times other nets ≤ 1) (sym (holders_push-end before node))
    (once node other)

once_none : HoldOnce []
unfolding holders
once_none node net = omega arith

once_upto : (steps : List Step) → IsLawful steps → (i : ℕ) → i ≤ length steps
    → HoldOnce (take i steps)
once_upto steps lawful zero h = once_none
once_upto steps lawful (suc i) h =
    let inside : i < length steps = omega arith in
    let same : take (i + 1) steps ≡ take i steps ++ get_or steps i End ∷ [] =
    take_more steps i End inside in
    let at : i + 1 ≡ suc i = omega arith in
    subst (λ (n : ℕ). HoldOnce (take n steps)) at
    (subst HoldOnce (sym same) (once_push (take i steps) (get_or steps i End)
    (may_follow steps i inside lawful) (once_upto steps lawful i (omega arith))))

pub lawful_once : (steps : List Step) (node net : ℕ) → IsLawful steps
    → times net (holders steps node) ≤ 1
lawful_once steps node net lawful =
    subst (λ (ss : List Step). times net (holders ss node) ≤ 1)
    (take_all (length steps) steps (omega arith))
    (once_upto steps lawful (length steps) (omega arith) node net)

-- the occupancy of no steps
pub after_none : (nodes : ℕ) (loads : List Load) → length loads ≡ nodes
    → ((node : ℕ) → holder_count loads node ≡ 0) → ((node : ℕ) → hist_at loads node ≡ 0)
    → IsAfter [] nodes loads
unfolding holders before_ends
after_none nodes loads all unheld unshared = record {
  all = all;
  holders = unheld;
  hist = λ node. unshared node ∙ (let none : 0 ≡ min 0 most_hist = omega arith in none);
}

-- and of one step more, a claim
pub after_claim : (before : List Step) (nodes net place : ℕ) (old new : List Load)
    → IsAfter before nodes old
    → Recounts old new place (holder_count old place + 1)
    → IsAfter (before ++ Claim net place ∷ []) nodes new
after_claim before nodes net place old new after counts = record {
  all = counts.nodes ∙ after.all;
  holders = λ node. by node (cases_eq node place);
  hist = λ node. counts.hist node ∙ (after.hist node
      ∙ ap (λ (lists : List (List Step)). min (count_by (is_shared_after node) lists) most_hist)
      (sym (before_ends_push-claim before net place)));
}
  where
    by : (node : ℕ) → (node ≡ place) ⊎ (node ≡ place → ⊥)
        → holder_count new node ≡ length (holders (before ++ Claim net place ∷ []) node)
    by node (inl e) =
        let one : length (holders (before ++ Claim net place ∷ []) node)
        ≡ length (holders before node) + 1 =
        ap length (holders_push-claim before net place node
        ∙ ap (λ (b : Bool). holders before node ++ cond b (net ∷ []) [])
        (eq-eqb place node (sym e))) ∙ length_push (holders before node) net in
        let was : holder_count old node ≡ length (holders before node) = after.holders node in
        let now : holder_count new node ≡ holder_count old node + 1 =
        subst (λ (n : ℕ). holder_count new n ≡ holder_count old n + 1) (sym e) counts.changed in
        omega arith
    by node (inr ne) =
        let same : length (holders (before ++ Claim net place ∷ []) node)
        ≡ length (holders before node) =
        ap length (holders_push-claim before net place node
        ∙ (ap (λ (b : Bool). holders before node ++ cond b (net ∷ []) [])
        (ne_eqb place node (λ e. ne (sym e))) ∙ append-nil (holders before node))) in
        counts.others node ne ∙ (after.holders node ∙ sym same)

-- a release, of a net that holds the node once
pub after_release : (before : List Step) (nodes net place : ℕ) (old new : List Load)
    → IsAfter before nodes old
    → Contains (holders before place) net → times net (holders before place) ≤ 1
    → Recounts old new place (holder_count old place - 1)
    → IsAfter (before ++ Release net place ∷ []) nodes new
after_release before nodes net place old new after held once counts = record {
  all = counts.nodes ∙ after.all;
  holders = λ node. by node (cases_eq node place);
  hist = λ node. counts.hist node ∙ (after.hist node
      ∙ ap (λ (lists : List (List Step)). min (count_by (is_shared_after node) lists) most_hist)
      (sym (before_ends_push-release before net place)));
}
  where
    at : holder_count new place ≡ length (holders (before ++ Release net place ∷ []) place)
    at =
        let fewer : length (holders (before ++ Release net place ∷ []) place)
        ≡ length (all_but net (holders before place)) =
        ap length (holders_push-release before net place place
        ∙ ap (λ (b : Bool). cond b (all_but net (holders before place)) (holders before place))
        (eq-eqb place place refl)) in
        let gone : length (all_but net (holders before place)) + times net (holders before place)
        ≡ length (holders before place) = all_but-length net (holders before place) in
        let some : 0 < times net (holders before place) =
        contained_times (holders before place) net held in
        let was : holder_count old place ≡ length (holders before place) = after.holders place in
        omega (arith, counts.changed)

    by : (node : ℕ) → (node ≡ place) ⊎ (node ≡ place → ⊥)
        → holder_count new node ≡ length (holders (before ++ Release net place ∷ []) node)
    by node (inl e) = subst (λ (n : ℕ). holder_count new n
        ≡ length (holders (before ++ Release net place ∷ []) n)) (sym e) at
    by node (inr ne) =
        let same : length (holders (before ++ Release net place ∷ []) node)
        ≡ length (holders before node) =
        ap length (holders_push-release before net place node
        ∙ ap (λ (b : Bool). cond b (all_but net (holders before node)) (holders before node))
        (ne_eqb place node (λ e. ne (sym e)))) in
        counts.others node ne ∙ (after.holders node ∙ sym same)

-- and an end of a round
pub after_end : (before : List Step) (nodes : ℕ) (old new : List Load) → IsAfter before nodes old
    → EndsRound old new → IsAfter (before ++ End ∷ []) nodes new
after_end before nodes old new after ends = record {
  all = ends.nodes ∙ after.all;
  holders = λ node. ends.holders node ∙ (after.holders node
      ∙ ap length (sym (holders_push-end before node)));
  hist = λ node. by node (cases_lt (holder_count old node) 2);
}
  where
    counted : (node : ℕ) → count_by (is_shared_after node) (before_ends (before ++ End ∷ []))
        ≡ count_by (is_shared_after node) (before_ends before) + cond
        (is_shared_after node before) 1 0
    counted node =
        ap (count_by (is_shared_after node)) (before_ends_push-end before)
        ∙ sum_by_push (λ (steps : List Step). cond (is_shared_after node steps) 1 0)
        (before_ends before) before

    by : (node : ℕ) → (holder_count old node < 2) ⊎ (2 ≤ holder_count old node)
        → hist_at new node ≡ hist (before ++ End ∷ []) node
    by node (inl few) =
        let as_count : Bool → ℕ = λ b. cond b 1 0 in
        let none : cond (is_shared_after node before) 1 0 ≡ as_count false =
        ap as_count (lt-leb 2 (length (holders before node))
        (omega (arith, after.holders node))) in
        let was : hist_at old node ≡ min (count_by (is_shared_after node) (before_ends before))
        most_hist = after.hist node in
        let now : hist_at new node ≡ hist_at old node = ends.others node few in
        let more : _ = counted node in
        omega (arith, more)
    by node (inr many) =
        let as_count : Bool → ℕ = λ b. cond b 1 0 in
        let one : cond (is_shared_after node before) 1 0 ≡ as_count true =
        ap as_count (le-leb 2 (length (holders before node))
        (omega (arith, after.holders node))) in
        let was : hist_at old node ≡ min (count_by (is_shared_after node) (before_ends before))
        most_hist = after.hist node in
        let now : hist_at new node ≡ min (hist_at old node + 1) most_hist = ends.shared node many in
        omega (arith, counted node)

-- the step at a place, whatever stands past the end
pub step_at : (steps : List Step) (i : ℕ) (item step : Step) → i < length steps
    → item ≡ get_or steps i item → item ≡ step → get_or steps i End ≡ step
step_at steps i item step h is e = get_or_default steps i End item h ∙ (sym is ∙ e)

-- the occupancy of the steps up to the next
next : (steps : List Step) (i nodes : ℕ) (item step : Step) (new : List Load) → i < length steps
    → item ≡ get_or steps i item → item ≡ step
    → IsAfter (take i steps ++ step ∷ []) nodes new → IsAfter (take (i + 1) steps) nodes new
next steps i nodes item step new h is e after =
    subst (λ (ss : List Step). IsAfter ss nodes new)
    (sym (take_more steps i End h ∙ ap (λ (s : Step). take i steps ++ s ∷ [])
    (step_at steps i item step h is e))) after

pub claim_next : (steps : List Step) (i nodes net place : ℕ) (item : Step) (old new : List Load)
    → i < length steps → item ≡ get_or steps i item
    → item ≡ Claim net place → IsAfter (take i steps) nodes old
    → Recounts old new place (holder_count old place + 1)
    → IsAfter (take (i + 1) steps) nodes new
claim_next steps i nodes net place item old new h is e after counts =
    next steps i nodes item (Claim net place) new h is e
    (after_claim (take i steps) nodes net place old new after counts)

pub release_may : (steps : List Step) (i net place : ℕ) (item : Step) → i < length steps
    → item ≡ get_or steps i item
    → item ≡ Release net place → IsLawful steps → Contains (holders (take i steps) place) net
release_may steps i net place item h is e lawful =
    subst (λ (s : Step). MayFollow (take i steps) s)
    (step_at steps i item (Release net place) h is e) (may_follow steps i h lawful)

pub release_next : (steps : List Step) (i nodes net place : ℕ) (item : Step) (old new : List Load)
    → i < length steps → item ≡ get_or steps i item
    → item ≡ Release net place → IsLawful steps → IsAfter (take i steps) nodes old
    → Recounts old new place (holder_count old place - 1)
    → IsAfter (take (i + 1) steps) nodes new
release_next steps i nodes net place item old new h is e lawful after counts =
    next steps i nodes item (Release net place) new h is e
    (after_release (take i steps) nodes net place old new after
    (release_may steps i net place item h is e lawful)
    (once_upto steps lawful i (omega arith) place net) counts)

pub end_next : (steps : List Step) (i nodes : ℕ) (item : Step) (old new : List Load)
    → i < length steps → item ≡ get_or steps i item
    → item ≡ End → IsAfter (take i steps) nodes old → EndsRound old new
    → IsAfter (take (i + 1) steps) nodes new
end_next steps i nodes item old new h is e after ends =
    next steps i nodes item End new h is e (after_end (take i steps) nodes old new after ends)

-- a count of holders is below the number of all steps
pub few_holders : (steps : List Step) (i nodes place : ℕ) (loads : List Load) → i < length steps
    → length steps < 2 ^ 32 → IsAfter (take i steps) nodes loads
    → holder_count loads place < 2 ^ 32 - 1
few_holders steps i nodes place loads h few after =
    let many : length (holders (take i steps) place) ≤ length (take i steps) =
    holders-few (take i steps) place in
    let upto : length (take i steps) ≡ i = length-take-le i steps (omega arith) in
    omega (arith, after.holders place)

-- a node that a net holds has a holder
pub some_holder : (steps : List Step) (i nodes net place : ℕ) (loads : List Load)
    → IsAfter (take i steps) nodes loads → Contains (holders (take i steps) place) net
    → 0 < holder_count loads place
some_holder steps i nodes net place loads after held = omega (arith, after.holders place, held.1)
