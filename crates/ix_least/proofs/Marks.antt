-- Labels by point, one of which is written.
use Rattle.std.proofs.Common.{◌≡◌, ◌≢◌, ℕ, ◌+◌, ◌<◌, ◌≤◌, ◌⊎◌, inl, inr, true, false, List, [], ◌∷◌}
use Rattle.std.proofs.Common.{Option, Some, None, length, refl, sym, ◌∙◌, ap, subst, arith, zero}
use Rattle.std.proofs.Common.{suc, slice_get}
use Rattle.std.specs.List.{slice_set}
use Rattle.std.proofs.lemmas.Bool.Decides.{nat_tests}
use Rattle.std.proofs.lemmas.Option.{slice_get_within}
use Rattle.ix_least.specs.declared.labels.Label.{Label}
use Rattle.ix_least.specs.Labels.{IsKnown, open_weight, count_above}

-- two numbers are equal, or they aren't
pub same_or_not : (a b : ℕ) → (a ≡ b) ⊎ (a ≢ b)
same_or_not zero zero = inl refl
same_or_not zero (suc b) = inr (λ e. omega (arith, e))
same_or_not (suc a) zero = inr (λ e. omega (arith, e))
same_or_not (suc a) (suc b) = elim (same_or_not a b) [
  | inl e ↦ inl (ap suc e)
  | inr n ↦
      inr (λ e. n (omega (arith, e)))
]

get_set_same : {X : Type 0} (xs : List X) (i : ℕ) (x : X) → i < length xs →
    slice_get (slice_set xs i x) i ≡ Some x
get_set_same [] i x below = absurd (omega arith)
get_set_same (y ∷ xs) zero x below = refl
get_set_same (y ∷ xs) (suc i) x below = get_set_same xs i x (omega arith)

get_set_other : {X : Type 0} (xs : List X) (i k : ℕ) (x : X) → k ≢ i →
    slice_get (slice_set xs i x) k ≡ slice_get xs k
get_set_other [] i k x other = refl
get_set_other (y ∷ xs) zero zero x other = absurd (other refl)
get_set_other (y ∷ xs) zero (suc k) x other = refl
get_set_other (y ∷ xs) (suc i) zero x other = refl
get_set_other (y ∷ xs) (suc i) (suc k) x other = get_set_other xs i k x (λ e. other (ap suc e))

pub known_within : (labels : List (Option Label)) (p : ℕ) (l : Label) → IsKnown labels p l →
    p < length labels
known_within labels p l known = slice_get_within labels p (Some l) known

-- a point has one label
pub known_once : (labels : List (Option Label)) (p : ℕ) (l m : Label) → IsKnown labels p l →
    IsKnown labels p m → l ≡ m
known_once labels p l m known too = let e : Some (Some l) ≡ Some (Some m) = sym known ∙ too in cc

-- the label that was written, and the others
pub known_set : (labels : List (Option Label)) (p : ℕ) (l : Label) → p < length labels →
    IsKnown (slice_set labels p (Some l)) p l
known_set labels p l below = get_set_same labels p (Some l) below

pub known_other : (labels : List (Option Label)) (p k : ℕ) (l m : Label) → k ≢ p →
    IsKnown labels k m → IsKnown (slice_set labels p (Some l)) k m
known_other labels p k l m other known = get_set_other labels p k (Some l) other ∙ known

pub known_cases : (labels : List (Option Label)) (p k : ℕ) (l m : Label) → p < length labels →
    IsKnown (slice_set labels p (Some l)) k m → ((k ≡ p) × (m ≡ l)) ⊎ ((k ≢ p) × IsKnown labels k m)
known_cases labels p k l m below known =
    elim (same_or_not k p) [
      | inl e ↦ inl (
        e,
        known_once (slice_set labels p (Some l)) p m l
            (subst (λ (j : ℕ). IsKnown (slice_set labels p (Some l)) j m) e known)
            (known_set labels p l below),
      )
      | inr n ↦ inr (n, sym (get_set_other labels p k (Some l) n) ∙ known)
    ]

-- a point that is settled weighs nothing from then on
pub open_weight-settle : (w : ℕ → ℕ) (labels : List (Option Label)) (i p : ℕ) (l m : Label) →
    IsKnown labels p l → l.settled ≡ false → m.settled ≡ true →
    open_weight w i (slice_set labels p (Some m)) + w (i + p) ≡ open_weight w i labels
unfolding open_weight
open_weight-settle w [] i p l m known unsettled settled = cc
open_weight-settle w (None ∷ labels) i zero l m known unsettled settled = cc
open_weight-settle w (Some k ∷ labels) i zero l m known unsettled settled =
    let same : k ≡ l = cc in
    let here : k.settled ≡ false = ap (λ (x : Label). x.settled) same ∙ unsettled in
    let w_is : w (i + 0) ≡ w i = ap w (omega arith) in
    rw (settled, here, w_is) (omega arith)
open_weight-settle w (None ∷ labels) i (suc p) l m known unsettled settled =
    let rest : open_weight w (i + 1) (slice_set labels p (Some m)) + w (i + 1 + p) ≡ open_weight w
    (i + 1) labels = open_weight-settle w labels (i + 1) p l m known unsettled settled in
    let w_is : w (i + suc p) ≡ w (i + 1 + p) = ap w (omega arith) in
    omega (arith, rest, w_is)
open_weight-settle w (Some k ∷ labels) i (suc p) l m known unsettled settled =
    let rest : open_weight w (i + 1) (slice_set labels p (Some m)) + w (i + 1 + p) ≡ open_weight w
    (i + 1) labels = open_weight-settle w labels (i + 1) p l m known unsettled settled in
    let w_is : w (i + suc p) ≡ w (i + 1 + p) = ap w (omega arith) in
    omega (arith, rest, w_is)

-- a label that isn't settled, in the place of another or of none, changes no weight
pub open_weight-same : (w : ℕ → ℕ) (labels : List (Option Label)) (i p : ℕ) (m : Label) →
    ((l : Label) → IsKnown labels p l → l.settled ≡ false) → m.settled ≡ false →
    open_weight w i (slice_set labels p (Some m)) ≡ open_weight w i labels
unfolding open_weight
open_weight-same w [] i p m before unsettled = refl
open_weight-same w (None ∷ labels) i zero m before unsettled = rw unsettled refl
open_weight-same w (Some k ∷ labels) i zero m before unsettled = let here : k.settled ≡ false =
    before k refl in rw (unsettled, here) refl
open_weight-same w (None ∷ labels) i (suc p) m before unsettled =
    ap (λ n. w i + n) (open_weight-same w labels (i + 1) p m before unsettled)
open_weight-same w (Some k ∷ labels) i (suc p) m before unsettled =
    let rest : open_weight w (i + 1) (slice_set labels p (Some m)) ≡ open_weight w (i + 1) labels =
    open_weight-same w labels (i + 1) p m before unsettled in
    omega (arith, rest)

-- no more points are open than there are
pub open_count_le : (labels : List (Option Label)) (i : ℕ) →
    open_weight (λ _. 1) i labels ≤ length labels
unfolding open_weight
open_count_le [] i = omega arith
open_count_le (None ∷ labels) i = let rest : open_weight (λ _. 1) (i + 1) labels ≤ length labels =
    open_count_le labels (i + 1) in omega arith
open_count_le (Some k ∷ labels) i = let rest : open_weight (λ _. 1) (i + 1) labels ≤ length labels =
    open_count_le labels (i + 1) in grind (arith, rest)

-- no more labels cost more than so much than there are
pub count_above_le : (dist : ℕ) (labels : List (Option Label)) →
    count_above dist labels ≤ length labels
unfolding count_above
count_above_le dist [] = omega arith
count_above_le dist (None ∷ labels) = let rest : count_above dist labels ≤ length labels =
    count_above_le dist labels in omega arith
count_above_le dist (Some k ∷ labels) = let rest : count_above dist labels ≤ length labels =
    count_above_le dist labels in grind (arith, nat_tests)

-- as many labels or more cost more than less
count_above-le : (less dist : ℕ) (labels : List (Option Label)) → less ≤ dist →
    count_above dist labels ≤ count_above less labels
unfolding count_above
count_above-le less dist [] le = omega arith
count_above-le less dist (None ∷ labels) le = count_above-le less dist labels le
count_above-le less dist (Some k ∷ labels) le = let rest : count_above dist labels ≤ count_above
    less labels = count_above-le less dist labels le in grind (arith, nat_tests)

-- a label more costs more than less
pub count_above-less : (less : ℕ) (labels : List (Option Label)) (p : ℕ) (l : Label) →
    IsKnown labels p l → less < l.dist → count_above l.dist labels + 1 ≤ count_above less labels
unfolding count_above
count_above-less less [] p l known lt = cc
count_above-less less (None ∷ labels) zero l known lt = cc
count_above-less less (Some k ∷ labels) zero l known lt =
    let same : k ≡ l = cc in
    let dist : k.dist ≡ l.dist = ap (λ (x : Label). x.dist) same in
    let rest : count_above l.dist labels ≤ count_above less labels =
    count_above-le less l.dist labels (omega arith) in
    grind (arith, nat_tests)
count_above-less less (None ∷ labels) (suc p) l known lt = count_above-less less labels p l known lt
count_above-less less (Some k ∷ labels) (suc p) l known lt =
    let rest : count_above l.dist labels + 1 ≤ count_above less labels =
    count_above-less less labels p l known lt in
    grind (arith, nat_tests)
