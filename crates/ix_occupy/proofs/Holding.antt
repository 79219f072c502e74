-- Who holds a node after one step more.
use Rattle.std.proofs.Common.{◌≡◌, ◌<◌, ◌≤◌, refl, ap, sym, subst, ◌∙◌, ℕ, suc, ◌+◌, Bool, true}
use Rattle.std.proofs.Common.{false, cond, ◌&&◌, ◌||◌, not, nat_eq, List, [], ◌∷◌, ◌++◌, length}
use Rattle.std.proofs.Common.{get_or, map, ◌⊎◌, inl, inr, arith}
use Rattle.std.specs.List.{list_any, filter, Contains}
use Rattle.std.proofs.lemmas.Bool.{cases_eq, eq-eqb, ne_eqb}
use Rattle.std.proofs.lemmas.List.{map-append, get_or_default}
use Rattle.std.proofs.lemmas.List.Sums.{sum_by-cons}
use Rattle.std.proofs.lemmas.List.Folds.{list_any-append}
use Rattle.ix_occupy.specs.declared.steps.Step.{Step}
use Rattle.ix_occupy.specs.declared.steps.Step.TheVariants.{Claim, Release, End}
use Rattle.ix_occupy.specs.Steps.{is_release, holders, times, before_ends}
use Rattle.ix_occupy.proofs.Counting.{hit, one_self, none_other, some_times}

-- a step that releases nothing leaves what later steps release
any_push : (p : Step → Bool) (steps : List Step) (step : Step)
    → list_any p (steps ++ step ∷ []) ≡ (list_any p steps || p step)
any_push p steps step = list_any-append p steps (step ∷ [])
    ∙ ap (λ b. list_any p steps || b) (or_false (p step))
  where
    or_false : (b : Bool) → (b || false) ≡ b
    or_false true = refl
    or_false false = refl

any_still : (p : Step → Bool) (steps : List Step) (step : Step) → p step ≡ false
    → list_any p (steps ++ step ∷ []) ≡ list_any p steps
any_still p steps step h = any_push p steps step
    ∙ (ap (λ b. list_any p steps || b) h ∙ or_false (list_any p steps))
  where
    or_false : (b : Bool) → (b || false) ≡ b
    or_false true = refl
    or_false false = refl

-- a claim adds its net at the end
pub holders_push-claim : (steps : List Step) (net place node : ℕ)
    → holders (steps ++ Claim net place ∷ []) node
    ≡ holders steps node ++ cond (nat_eq place node) (net ∷ []) []
unfolding holders
holders_push-claim [] net place node = by (nat_eq place node)
  where
    by : (b : Bool) → cond (b && not false) (net ∷ []) [] ≡ cond b (net ∷ []) []
    by true = refl
    by false = refl
holders_push-claim (Claim m q ∷ later) net place node =
    ap (λ b. cond (nat_eq q node && not b) (m ∷ holders (later ++ Claim net place ∷ []) node)
    (holders (later ++ Claim net place ∷ []) node))
    (any_still (is_release m node) later (Claim net place) refl)
    ∙ (ap (λ hs. cond (nat_eq q node && not (list_any (is_release m node) later)) (m ∷ hs) hs)
    (holders_push-claim later net place node)
    ∙ by (nat_eq q node && not (list_any (is_release m node) later)))
  where
    by : (b : Bool) → cond b (m ∷ (holders later node ++ cond (nat_eq place node) (net ∷ []) []))
        (holders later node ++ cond (nat_eq place node) (net ∷ []) [])
        ≡ cond b (m ∷ holders later node) (holders later node) ++ cond (nat_eq place node)
        (net ∷ []) []
    by true = refl
    by false = refl
holders_push-claim (Release m q ∷ later) net place node = holders_push-claim later net place node
holders_push-claim (End ∷ later) net place node = holders_push-claim later net place node

-- an end changes nothing
pub holders_push-end : (steps : List Step) (node : ℕ)
    → holders (steps ++ End ∷ []) node ≡ holders steps node
unfolding holders
holders_push-end [] node = refl
holders_push-end (Claim m q ∷ later) node =
    ap (λ b. cond (nat_eq q node && not b) (m ∷ holders (later ++ End ∷ []) node)
    (holders (later ++ End ∷ []) node)) (any_still (is_release m node) later End refl)
    ∙ ap (λ hs. cond (nat_eq q node && not (list_any (is_release m node) later)) (m ∷ hs) hs)
    (holders_push-end later node)
holders_push-end (Release m q ∷ later) node = holders_push-end later node
holders_push-end (End ∷ later) node = holders_push-end later node

-- the nets but one
abbrev pub all_but : ℕ → List ℕ → List ℕ
all_but net nets = filter (λ m. not (nat_eq net m)) nets

-- a release takes its net away
pub holders_push-release : (steps : List Step) (net place node : ℕ)
    → holders (steps ++ Release net place ∷ []) node
    ≡ cond (nat_eq place node) (all_but net (holders steps node)) (holders steps node)
unfolding holders
holders_push-release [] net place node = by (nat_eq place node)
  where
    by : (b : Bool) → [] ≡ cond b (all_but net []) []
    by true = refl
    by false = refl
holders_push-release (Claim m q ∷ later) net place node =
    ap (λ b. cond (nat_eq q node && not b) (m ∷ holders (later ++ Release net place ∷ []) node)
    (holders (later ++ Release net place ∷ []) node))
    (any_push (is_release m node) later (Release net place))
    ∙ (ap (λ hs. cond
    (nat_eq q node && not (list_any (is_release m node) later ||
    (nat_eq net m && nat_eq place node))) (m ∷ hs) hs)
    (holders_push-release later net place node)
    ∙ by (nat_eq q node) (list_any (is_release m node) later) (nat_eq place node))
  where
    by : (e a p : Bool) → cond (e && not (a || (nat_eq net m && p)))
        (m ∷ cond p (all_but net (holders later node)) (holders later node))
        (cond p (all_but net (holders later node)) (holders later node))
        ≡ cond p (all_but net (cond (e && not a) (m ∷ holders later node) (holders later node)))
        (cond (e && not a) (m ∷ holders later node) (holders later node))
    by false a true = refl
    by false a false = refl
    by true true true = refl
    by true true false = refl
    by true false true = here (nat_eq net m)
      where
        here : (r : Bool) → cond (not (r && true)) (m ∷ all_but net (holders later node))
            (all_but net (holders later node)) ≡ cond (not r) (m ∷ all_but net (holders later node))
            (all_but net (holders later node))
        here true = refl
        here false = refl
    by true false false = there (nat_eq net m)
      where
        there : (r : Bool) → cond (not (r && false)) (m ∷ holders later node) (holders later node)
            ≡ m ∷ holders later node
        there true = refl
        there false = refl
holders_push-release (Release m q ∷ later) net place node =
    holders_push-release later net place node
holders_push-release (End ∷ later) net place node = holders_push-release later net place node

-- no more nets hold a node than there were steps
pub holders-few : (steps : List Step) (node : ℕ) → length (holders steps node) ≤ length steps
unfolding holders
holders-few [] node = omega arith
holders-few (Claim m q ∷ later) node =
    by (nat_eq q node && not (list_any (is_release m node) later)) (holders-few later node)
  where
    by : (b : Bool) → length (holders later node) ≤ length later
        → length (cond b (m ∷ holders later node) (holders later node)) ≤ suc (length later)
    by true h = omega arith
    by false h = omega arith
holders-few (Release m q ∷ later) node = let h : length (holders later node) ≤ length later =
    holders-few later node in omega arith
holders-few (End ∷ later) node = let h : length (holders later node) ≤ length later =
    holders-few later node in omega arith

-- the ends so far, after one step more
pub before_ends_push-claim : (steps : List Step) (net place : ℕ)
    → before_ends (steps ++ Claim net place ∷ []) ≡ before_ends steps
unfolding before_ends
before_ends_push-claim [] net place = refl
before_ends_push-claim (Claim m q ∷ later) net place =
    ap (map (λ steps. Claim m q ∷ steps)) (before_ends_push-claim later net place)
before_ends_push-claim (Release m q ∷ later) net place =
    ap (map (λ steps. Release m q ∷ steps)) (before_ends_push-claim later net place)
before_ends_push-claim (End ∷ later) net place =
    ap (λ lists. [] ∷ map (λ steps. End ∷ steps) lists) (before_ends_push-claim later net place)

pub before_ends_push-release : (steps : List Step) (net place : ℕ)
    → before_ends (steps ++ Release net place ∷ []) ≡ before_ends steps
unfolding before_ends
before_ends_push-release [] net place = refl
before_ends_push-release (Claim m q ∷ later) net place =
    ap (map (λ steps. Claim m q ∷ steps)) (before_ends_push-release later net place)
before_ends_push-release (Release m q ∷ later) net place =
    ap (map (λ steps. Release m q ∷ steps)) (before_ends_push-release later net place)
before_ends_push-release (End ∷ later) net place =
    ap (λ lists. [] ∷ map (λ steps. End ∷ steps) lists) (before_ends_push-release later net place)

pub before_ends_push-end : (steps : List Step)
    → before_ends (steps ++ End ∷ []) ≡ before_ends steps ++ steps ∷ []
unfolding before_ends
before_ends_push-end [] = refl
before_ends_push-end (Claim m q ∷ later) =
    ap (map (λ steps. Claim m q ∷ steps)) (before_ends_push-end later)
    ∙ map-append (λ (steps : List Step). Claim m q ∷ steps) (before_ends later) (later ∷ [])
before_ends_push-end (Release m q ∷ later) =
    ap (map (λ steps. Release m q ∷ steps)) (before_ends_push-end later)
    ∙ map-append (λ (steps : List Step). Release m q ∷ steps) (before_ends later) (later ∷ [])
before_ends_push-end (End ∷ later) =
    ap (λ lists. [] ∷ map (λ steps. End ∷ steps) lists) (before_ends_push-end later)
    ∙ ap (λ (lists : List (List Step)). [] ∷ lists)
    (map-append (λ (steps : List Step). End ∷ steps) (before_ends later) (later ∷ []))

-- a number stands in a list exactly where it is counted
pub times-cons : (n m : ℕ) (ns : List ℕ) → times n (m ∷ ns) ≡ hit m n + times n ns
times-cons n m ns = sum_by-cons (λ other. hit other n) m ns

pub contained_times : (ns : List ℕ) (n : ℕ) → Contains ns n → 0 < times n ns
contained_times ns n (k, inside, is) =
    let at : get_or ns k 0 ≡ n = get_or_default ns k 0 n inside ∙ is in
    subst (λ (m : ℕ). 0 < times m ns) at (some_times ns k inside)

pub times_contained : (ns : List ℕ) (n : ℕ) → 0 < times n ns → Contains ns n
times_contained [] n some = absurd (omega arith)
times_contained (m ∷ ns) n some = by (cases_eq m n) (times_contained ns n)
  where
    by : (m ≡ n) ⊎ (m ≡ n → ⊥) → (0 < times n ns → Contains ns n) → Contains (m ∷ ns) n
    by (inl e) rest = (0, omega arith, e)
    by (inr ne) rest =
        let count : times n (m ∷ ns) ≡ hit m n + times n ns = times-cons n m ns in
        let none : hit m n ≡ 0 = none_other m n ne in
        let later : Contains ns n = rest (omega arith) in
        (suc later.0, omega (arith, later.1), later.2)

-- without one net, each other stands there as often, and the list is shorter by as often as that
-- one stood there
pub all_but-times : (net : ℕ) (nets : List ℕ) (n : ℕ) → times n (all_but net nets) ≤ times n nets
all_but-times net [] n = omega arith
all_but-times net (m ∷ nets) n = by (nat_eq net m) (all_but-times net nets n) (times-cons n m nets)
    (times-cons n m (all_but net nets))
  where
    by : (b : Bool) → times n (all_but net nets) ≤ times n nets
        → times n (m ∷ nets) ≡ hit m n + times n nets
        → times n (m ∷ all_but net nets) ≡ hit m n + times n (all_but net nets)
        → times n (cond (not b) (m ∷ all_but net nets) (all_but net nets)) ≤ times n (m ∷ nets)
    by true h e f = omega arith
    by false h e f = omega arith

pub all_but-length : (net : ℕ) (nets : List ℕ)
    → length (all_but net nets) + times net nets ≡ length nets
all_but-length net [] = refl
all_but-length net (m ∷ nets) = by (cases_eq net m) (all_but-length net nets)
    (times-cons net m nets)
  where
    by : (net ≡ m) ⊎ (net ≡ m → ⊥) → length (all_but net nets) + times net nets ≡ length nets
        → times net (m ∷ nets) ≡ hit m net + times net nets
        → length (cond (not (nat_eq net m)) (m ∷ all_but net nets) (all_but net nets)) + times net
        (m ∷ nets) ≡ suc (length nets)
    by (inl e) h count =
        let own : hit m net ≡ 1 = subst (λ (k : ℕ). hit m k ≡ 1) (sym e) (one_self m) in
        let gone : length (cond (not (nat_eq net m)) (m ∷ all_but net nets) (all_but net nets))
        ≡ length (all_but net nets) =
        ap (λ b. length (cond (not b) (m ∷ all_but net nets) (all_but net nets)))
        (eq-eqb net m e) in
        omega arith
    by (inr ne) h count =
        let none : hit m net ≡ 0 = none_other m net (λ e. ne (sym e)) in
        let kept : length (cond (not (nat_eq net m)) (m ∷ all_but net nets) (all_but net nets))
        ≡ suc (length (all_but net nets)) =
        ap (λ b. length (cond (not b) (m ∷ all_but net nets) (all_but net nets)))
        (ne_eqb net m ne) in
        omega arith
