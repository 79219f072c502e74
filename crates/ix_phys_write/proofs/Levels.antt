-- Trees that are walked in preorder: at each depth the trees that are still to come.
use Rattle.std.proofs.Common.{◌≡◌, ◌<◌, ◌≤◌, ◌+◌, ◌∙◌, ◌++◌, ℕ, zero, suc, true, false, List, [], ◌∷◌, map, length, take, drop, ap, arith, sym, subst, refl, inl, inr, ◌⊎◌, append_assoc}
use Rattle.std.specs.Prelude.{nat_lt, Some, slice_get}
use Rattle.std.specs.List.{flat_map}
use Rattle.std.proofs.lemmas.Bool.{lt-ltb, le-ltb, cases_lt}
use Rattle.std.proofs.lemmas.List.{append-nil, map-append, take-append-drop, length-map, length-take-le, take_more}
use Rattle.std.proofs.lemmas.Option.{get_or_from_slice_get}
use Rattle.ix_message.specs.Shape.{Text, Branches, ends, branch, preorder}
use Rattle.ix_message.specs.Names.{Datum, text_in, branch_uses, branches_map}
use Rattle.ix_rec.specs.declared.forest.Branch.{Branch}
use Rattle.ix_rec.specs.Forest.{StepsWithin, limit_after, depths, IsPreorder, next_limit}
use Rattle.ix_phys_write.specs.Trees.{trees_at}

-- ---- the trees at a depth, by the first item

pub trees_above : {A : Type 0} (k : ℕ) (b : Branch A) (bs : List (Branch A)) → b.depth < k → trees_at k (b ∷ bs) ≡ ends
trees_above k b bs lt = let e : nat_lt b.depth k ≡ true = lt-ltb b.depth k lt in rw e refl

pub trees_below : {A : Type 0} (k : ℕ) (b : Branch A) (bs : List (Branch A)) → k < b.depth → trees_at k (b ∷ bs) ≡ trees_at k bs
trees_below k b bs lt =
    let e : nat_lt b.depth k ≡ false = le-ltb b.depth k (omega arith) in
    let f : nat_lt k b.depth ≡ true = lt-ltb k b.depth lt in
    rw (e, f) refl

pub trees_here : {A : Type 0} (b : Branch A) (bs : List (Branch A)) → trees_at b.depth (b ∷ bs) ≡ branch b.item (trees_at (suc b.depth) bs) (trees_at b.depth bs)
trees_here {A} b bs =
    let e : nat_lt b.depth b.depth ≡ false = le-ltb b.depth b.depth (omega arith) in
    let here : trees_at b.depth (b ∷ bs) ≡ branch b.item (trees_at (b.depth + 1) bs) (trees_at b.depth bs) = rw e refl in
    let next : b.depth + 1 ≡ suc b.depth = omega arith in
    here ∙ ap (λ (k : ℕ). branch b.item (trees_at k bs) (trees_at b.depth bs)) next

-- ---- a step for the trees of each depth, the deepest first

unfoldable pub run : {A X : Type 0} → (ℕ → Branches A → X → X) → ℕ → List (Branch A) → X → X
run f zero bs x = x
run f (suc k) bs x = run f k bs (f k (trees_at k bs) x)

abbrev pub Passes : {A X : Type 0} → (ℕ → Branches A → X → X) → Type 0
Passes {A} {X} f = (k : ℕ) (x : X) → f k ends x ≡ x

pub run_none : {A X : Type 0} (f : ℕ → Branches A → X → X) → Passes f → (k : ℕ) (x : X) → run f k [] x ≡ x
unfolding run
run_none f pass zero x = refl
run_none f pass (suc k) x = ap (run f k []) (pass k x) ∙ run_none f pass k x

pub run_same : {A X : Type 0} (f g : ℕ → Branches A → X → X) (k : ℕ) (b : Branch A) (bs : List (Branch A)) (x : X) → k ≤ b.depth → ((j : ℕ) → j < k → (t : Branches A) (y : X) → f j t y ≡ g j t y) → run f k (b ∷ bs) x ≡ run g k bs x
unfolding run
run_same f g zero b bs x le same = refl
run_same {A} {X} f g (suc k) b bs x le same =
    let below : trees_at k (b ∷ bs) ≡ trees_at k bs = trees_below k b bs (omega arith) in
    let here : f k (trees_at k (b ∷ bs)) x ≡ g k (trees_at k bs) x = ap (λ (t : Branches A). f k t x) below ∙ same k (omega arith) (trees_at k bs) x in
    ap (run f k (b ∷ bs)) here ∙ run_same f g k b bs (g k (trees_at k bs) x) (omega arith) (λ j lt t y. same j (omega arith) t y)

pub run_top : {A X : Type 0} (f : ℕ → Branches A → X → X) → Passes f → (k : ℕ) (b : Branch A) (bs : List (Branch A)) (x : X) → b.depth < k
    → run f k (b ∷ bs) x ≡ run f b.depth (b ∷ bs) (f b.depth (trees_at b.depth (b ∷ bs)) x)
unfolding run
run_top f pass zero b bs x lt = absurd (omega arith)
run_top {A} {X} f pass (suc k) b bs x lt = go (cases_lt b.depth k) (λ less. run_top f pass k b bs x less)
  where
    go : (b.depth < k) ⊎ (k ≤ b.depth) → (b.depth < k → run f k (b ∷ bs) x ≡ run f b.depth (b ∷ bs) (f b.depth (trees_at b.depth (b ∷ bs)) x))
        → run f k (b ∷ bs) (f k (trees_at k (b ∷ bs)) x) ≡ run f b.depth (b ∷ bs) (f b.depth (trees_at b.depth (b ∷ bs)) x)
    go (inl less) again = ap (run f k (b ∷ bs)) (ap (λ (t : Branches A). f k t x) (trees_above k b bs less) ∙ pass k x) ∙ again less
    go (inr le) again = let same : k ≡ b.depth = omega arith in ap (λ (j : ℕ). run f j (b ∷ bs) (f j (trees_at j (b ∷ bs)) x)) same

-- an item is visited: what it asks of the trees at its depth, done step by step
pub run_step : {A X : Type 0} (f g : ℕ → Branches A → X → X) → Passes f → (k : ℕ) (b : Branch A) (bs : List (Branch A)) (x y : X) → b.depth < k
    → ((j : ℕ) → j < b.depth → (t : Branches A) (z : X) → f j t z ≡ g j t z)
    → f b.depth (branch b.item (trees_at (suc b.depth) bs) (trees_at b.depth bs)) x ≡ g b.depth (trees_at b.depth bs) (g (suc b.depth) (trees_at (suc b.depth) bs) y)
    → run f k (b ∷ bs) x ≡ run g (suc (suc b.depth)) bs y
unfolding run
run_step {A} {X} f g pass k b bs x y lt same step =
    run_top f pass k b bs x lt
    ∙ ap (λ (t : Branches A). run f b.depth (b ∷ bs) (f b.depth t x)) (trees_here b bs)
    ∙ run_same f g b.depth b bs (f b.depth (branch b.item (trees_at (suc b.depth) bs) (trees_at b.depth bs)) x) (omega arith) same
    ∙ ap (run g b.depth bs) step

-- ---- depths

pub limit_push : (limit : ℕ) (ds : List ℕ) (d : ℕ) → limit_after limit (ds ++ d ∷ []) ≡ d + 1
limit_push limit [] d = refl
limit_push limit (e ∷ ds) d = limit_push (e + 1) ds d

pub limit_le : (limit : ℕ) (ds : List ℕ) → StepsWithin limit ds → limit_after limit ds ≤ limit + length ds
limit_le limit [] h = omega arith
limit_le limit (d ∷ ds) h = omega (arith, limit_le (d + 1) ds h.1, h.0)

pub steps_front : (limit : ℕ) (ds es : List ℕ) → StepsWithin limit (ds ++ es) → StepsWithin limit ds
steps_front limit [] es h = tt
steps_front limit (d ∷ ds) es h = (h.0, steps_front (d + 1) ds es h.1)

pub steps_back : (limit : ℕ) (ds es : List ℕ) → StepsWithin limit (ds ++ es) → StepsWithin (limit_after limit ds) es
steps_back limit [] es h = h
steps_back limit (d ∷ ds) es h = steps_back (d + 1) ds es h.1

-- ---- names in preorder

unfoldable pub uses_step : {A : Type 0} → (A → List Datum) → ℕ → Branches A → List Text → List Text
uses_step row k t x = x ++ branch_uses (branches_map row t)

uses_pass : {A : Type 0} (row : A → List Datum) → Passes (uses_step row)
unfolding uses_step
uses_pass row k x = append-nil x

uses_all : {A : Type 0} (row : A → List Datum) (limit : ℕ) (bs : List (Branch A)) (x : List Text) → StepsWithin limit (depths bs)
    → run (uses_step row) (suc limit) bs x ≡ x ++ flat_map (λ b. flat_map text_in (row b.item)) bs
unfolding uses_step
uses_all row limit [] x h = run_none (uses_step row) (uses_pass row) (suc limit) x ∙ sym (append-nil x)
uses_all {A} row limit (b ∷ bs) x h =
    let d = b.depth in
    let own = flat_map text_in (row b.item) in
    let U = λ (t : Branches A). branch_uses (branches_map row t) in
    let t1 = trees_at (suc d) bs in
    let t2 = trees_at d bs in
    let next : d + 1 ≡ suc d = omega arith in
    let h1 : StepsWithin (suc d) (depths bs) = subst (λ (k : ℕ). StepsWithin k (depths bs)) next h.1 in
    let step : x ++ (own ++ U t1 ++ U t2) ≡ ((x ++ own) ++ U t1) ++ U t2 = sym (append_assoc x (own ++ U t1) (U t2)) ∙ ap (λ (l : List Text). l ++ U t2) (sym (append_assoc x own (U t1))) in
    run_step (uses_step row) (uses_step row) (uses_pass row) (suc limit) b bs x (x ++ own) (omega (arith, h.0)) (λ j lt t z. refl) step
    ∙ uses_all row (suc d) bs (x ++ own) h1 ∙ append_assoc x own (flat_map (λ (b : Branch A). flat_map text_in (row b.item)) bs)

pub uses_in_preorder : {A : Type 0} (row : A → List Datum) (bs : List (Branch A)) → IsPreorder bs → flat_map (λ b. flat_map text_in (row b.item)) bs ≡ branch_uses (branches_map row (trees_at 0 bs))
unfolding run uses_step
uses_in_preorder row bs h = sym (uses_all row 0 bs [] h)

-- the depths of what is left of a preorder list, and the greatest next depth
pub limit_at : {A : Type 0} (bs : List (Branch A)) (i : ℕ) → IsPreorder bs → i ≤ length bs → next_limit (take i bs) ≤ i
limit_at {A} bs i h le =
    let parts : depths (take i bs) ++ depths (drop i bs) ≡ depths bs = sym (map-append (λ (b : Branch A). b.depth) (take i bs) (drop i bs)) ∙ ap depths (take-append-drop i bs) in
    let front : StepsWithin 0 (depths (take i bs)) = steps_front 0 (depths (take i bs)) (depths (drop i bs)) (subst (StepsWithin 0) (sym parts) h) in
    let long : length (depths (take i bs)) ≡ i = length-map (take i bs) (λ (b : Branch A). b.depth) ∙ length-take-le i bs le in
    omega (arith, limit_le 0 (depths (take i bs)) front, long)

pub limit_next : {A : Type 0} (bs : List (Branch A)) (i : ℕ) (b : Branch A) → i < length bs → slice_get bs i ≡ Some b → next_limit (take (i + 1) bs) ≡ b.depth + 1
limit_next {A} bs i b lt is =
    let more : take (i + 1) bs ≡ take i bs ++ b ∷ [] = take_more bs i b lt ∙ ap (λ (x : Branch A). take i bs ++ x ∷ []) (get_or_from_slice_get bs i b b is) in
    ap (λ (l : List (Branch A)). limit_after 0 (depths l)) more ∙ ap (limit_after 0) (map-append (λ (b : Branch A). b.depth) (take i bs) (b ∷ [])) ∙ limit_push 0 (depths (take i bs)) b.depth

pub steps_behind : {A : Type 0} (bs : List (Branch A)) (i : ℕ) (b : Branch A) → IsPreorder bs → i < length bs → slice_get bs i ≡ Some b → StepsWithin (b.depth + 1) (depths (drop (i + 1) bs))
steps_behind {A} bs i b h lt is =
    let parts : depths (take (i + 1) bs) ++ depths (drop (i + 1) bs) ≡ depths bs = sym (map-append (λ (b : Branch A). b.depth) (take (i + 1) bs) (drop (i + 1) bs)) ∙ ap depths (take-append-drop (i + 1) bs) in
    subst (λ (k : ℕ). StepsWithin k (depths (drop (i + 1) bs))) (limit_next bs i b lt is) (steps_back 0 (depths (take (i + 1) bs)) (depths (drop (i + 1) bs)) (subst (StepsWithin 0) (sym parts) h))

-- ---- the trees have their list as their preorder

unfoldable pub preorder_step : {A : Type 0} → ℕ → Branches A → List (ℕ × A) → List (ℕ × A)
preorder_step k t x = x ++ preorder k t

preorder_pass : {A : Type 0} → Passes {A = A} {X = List (ℕ × A)} preorder_step
unfolding preorder_step
preorder_pass k x = append-nil x

preorder_all : {A : Type 0} (limit : ℕ) (bs : List (Branch A)) (x : List (ℕ × A)) → StepsWithin limit (depths bs)
    → run preorder_step (suc limit) bs x ≡ x ++ map (λ b. (b.depth, b.item)) bs
unfolding preorder_step
preorder_all limit [] x h = run_none preorder_step preorder_pass (suc limit) x ∙ sym (append-nil x)
preorder_all {A} limit (b ∷ bs) x h =
    let d = b.depth in
    let own : List (ℕ × A) = (d, b.item) ∷ [] in
    let t1 = trees_at (suc d) bs in
    let t2 = trees_at d bs in
    let next : d + 1 ≡ suc d = omega arith in
    let h1 : StepsWithin (suc d) (depths bs) = subst (λ (k : ℕ). StepsWithin k (depths bs)) next h.1 in
    let step : x ++ (own ++ (preorder (d + 1) t1 ++ preorder d t2)) ≡ ((x ++ own) ++ preorder (suc d) t1) ++ preorder d t2 =
    ap (λ (k : ℕ). x ++ (own ++ (preorder k t1 ++ preorder d t2))) next ∙ sym (append_assoc x own (preorder (suc d) t1 ++ preorder d t2)) ∙ sym (append_assoc (x ++ own) (preorder (suc d) t1) (preorder d t2)) in
    run_step preorder_step preorder_step preorder_pass (suc limit) b bs x (x ++ own) (omega (arith, h.0)) (λ j lt t z. refl) step
    ∙ preorder_all (suc d) bs (x ++ own) h1 ∙ append_assoc x own (map (λ (b : Branch A). (b.depth, b.item)) bs)

pub trees_in_preorder : {A : Type 0} (bs : List (Branch A)) → IsPreorder bs → preorder 0 (trees_at 0 bs) ≡ map (λ b. (b.depth, b.item)) bs
unfolding run preorder_step
trees_in_preorder bs h = preorder_all 0 bs [] h
