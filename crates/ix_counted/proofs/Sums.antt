-- Sums over the first numbers, and lists joined in the same way.
use Rattle.std.proofs.Common.{◌≡◌, ℕ, zero, suc, ◌+◌, ◌<◌, inl, inr, ◌^◌, min, List}
use Rattle.std.proofs.Common.{[], ◌++◌, length, refl, sym, ap, ◌∙◌}
use Rattle.std.proofs.Common.{subst, arith, length-append}
use Rattle.std.proofs.lemmas.Option.{none-some}
use Rattle.ix_counted.specs.Counts.{sum_to}
use Rattle.ix_counted.proofs.Places.{IsItem, Differ, item_left, item_right, item_cases, differ_append}
use Rattle.ix_counted.proofs.Places.{same_or_not}

pub sum_none : (g : ℕ → ℕ) → sum_to g 0 ≡ 0
unfolding sum_to
sum_none g = refl

pub sum_suc : (g : ℕ → ℕ) (n : ℕ) → sum_to g (suc n) ≡ sum_to g n + g n
unfolding sum_to
sum_suc g n = refl

pub sum_next : (g : ℕ → ℕ) (n : ℕ) → sum_to g (n + 1) ≡ sum_to g n + g n
sum_next g n = ap (λ k. sum_to g k) (let e : n + 1 ≡ suc n = omega arith in e) ∙ sum_suc g n

-- two numbers are the same where they don't pass the most
abbrev pub AreLike : ℕ → ℕ → Type 0
AreLike a b = min a (2 ^ 22 + 1) ≡ min b (2 ^ 22 + 1)

pub like_sum : (a : ℕ) (g h : ℕ → ℕ) (n : ℕ) → ((k : ℕ) → k < n → AreLike (g k) (h k))
    → AreLike (a + sum_to g n) (a + sum_to h n)
like_sum a g h zero each = ap (λ s. min (a + s) (2 ^ 22 + 1)) (sum_none g ∙ sym (sum_none h))
like_sum a g h (suc n) each =
    let rest : AreLike (a + sum_to g n) (a + sum_to h n) =
    like_sum a g h n (λ k lt. each k (omega arith)) in
    let one : AreLike (g n) (h n) = each n (omega arith) in
    let x : sum_to g (suc n) ≡ sum_to g n + g n = sum_suc g n in
    let y : sum_to h (suc n) ≡ sum_to h n + h n = sum_suc h n in
    omega (arith, rest, one, x, y)

pub sum_same : (g h : ℕ → ℕ) (n : ℕ) → ((k : ℕ) → g k ≡ h k) → sum_to g n ≡ sum_to h n
sum_same g h zero each = sum_none g ∙ sym (sum_none h)
sum_same g h (suc n) each =
    let rest : sum_to g n ≡ sum_to h n = sum_same g h n each in
    let one : g n ≡ h n = each n in
    let x : sum_to g (suc n) ≡ sum_to g n + g n = sum_suc g n in
    let y : sum_to h (suc n) ≡ sum_to h n + h n = sum_suc h n in
    omega (arith, rest, one, x, y)

pub sum_ones : (g : ℕ → ℕ) (n : ℕ) → ((k : ℕ) → g k ≡ 1) → sum_to g n ≡ n
sum_ones g zero each = sum_none g
sum_ones g (suc n) each =
    let rest : sum_to g n ≡ n = sum_ones g n each in let one : g n ≡ 1 = each n in
    let x : sum_to g (suc n) ≡ sum_to g n + g n = sum_suc g n in omega (arith, rest, one, x)

abbrev pub join_to : {A : Type 0} → (ℕ → List A) → (n : ℕ) → List A
join_to g zero = []
join_to g (suc n) = join_to g n ++ g n

pub join_length : {A : Type 0} (g : ℕ → List A) (n : ℕ)
    → length (join_to g n) ≡ sum_to (λ k. length (g k)) n
join_length g zero = sym (sum_none (λ k. length (g k)))
join_length g (suc n) = length-append (join_to g n) (g n)
    ∙ ap (λ s. s + length (g n)) (join_length g n) ∙ sym (sum_suc (λ k. length (g k)) n)

pub join_item : {A : Type 0} (g : ℕ → List A) (n k : ℕ) (x : A) → k < n → IsItem (g k) x
    → IsItem (join_to g n) x
join_item g zero k x lt h = absurd (omega arith)
join_item g (suc n) k x lt h = elim (same_or_not k n) [
  | inl e ↦ item_right (join_to g n) (g n) x (subst (λ i. IsItem (g i) x) e h)
  | inr other ↦ item_left (join_to g n) (g n) x (join_item g n k x (omega arith) h)
]

pub join_where : {A : Type 0} (g : ℕ → List A) (n : ℕ) (x : A) → IsItem (join_to g n) x
    → (k : ℕ) × (k < n) × IsItem (g k) x
join_where g zero x h = absurd (none-some x h.1)
join_where g (suc n) x h = elim (item_cases (join_to g n) (g n) x h) [
  | inl left ↦ let r : _ = join_where g n x left in
      (r.0, (let lt : r.0 < n = r.1 in omega arith), r.2)
  | inr right ↦ (n, omega arith, right)
]

pub join_differ : {A : Type 0} (g : ℕ → List A) (n : ℕ) → ((k : ℕ) → Differ (g k))
    → ((j k : ℕ) (x : A) → j < k → IsItem (g j) x → IsItem (g k) x → ⊥) → Differ (join_to g n)
join_differ g zero each apart = λ i j x a b. absurd (none-some x a)
join_differ g (suc n) each apart =
    differ_append (join_to g n) (g n) (join_differ g n each apart) (each n)
    (λ x left right. let r : _ = join_where g n x left in apart r.0 n x r.1 r.2 right)
