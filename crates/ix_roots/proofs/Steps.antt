-- One step on a table of the numbers above others.
use Rattle.std.proofs.Common.{◌≡◌, ◌≢◌, ◌⊎◌, ◌<◌, ◌≤◌, ◌+◌, ◌∙◌, ℕ, List, length, get_or, set, sym}
use Rattle.std.proofs.Common.{ap}
use Rattle.std.proofs.Common.{inl, inr, arith, refl, nat_eq, if◌then◌else◌, length-set, max, min}
use Rattle.std.proofs.Common.{subst}
use Rattle.std.proofs.Common.{get_or-set_same, get_or-set_other}
use Rattle.std.proofs.Common.{[], ◌∷◌, ◌++◌}
use Rattle.std.proofs.lemmas.List.{length_push, get_or_push, get_or_append_left}
use Rattle.std.proofs.lemmas.Bool.{cases_eq, cases_lt}
use Rattle.std.proofs.lemmas.Bool.Decides.{nat_tests}
use Rattle.ix_roots.specs.Forest.{AreUp, IsForest, Joins}

pub set_cases : (above : List ℕ) (i k a : ℕ) → i < length above
    → ((k ≡ i) × (get_or (set above i a) k 0 ≡ a))
    ⊎ ((k ≢ i) × (get_or (set above i a) k 0 ≡ get_or above k 0))
set_cases above i k a inside = elim (cases_eq k i) [
  | inl e ↦ inl (e, ap (λ n. get_or (set above i a) n 0) e ∙ get_or-set_same above i a 0 inside)
  | inr n ↦ inr (n, get_or-set_other above i k a 0 n)
]

-- a lesser number put above one leaves each below itself
pub up_set : (above : List ℕ) (i a : ℕ) → i < length above → a ≤ i → AreUp above
    → AreUp (set above i a)
up_set above i a inside low up k few =
    let same : length (set above i a) ≡ length above = length-set above i a in
    elim (set_cases above i k a inside) [
      | inl w ↦ let e = w.0 in let v = w.1 in omega arith
      | inr w ↦ let v = w.1 in let h : get_or above k 0 ≤ k = up k (omega arith) in omega arith
    ]

-- the way up is halved
pub halved : (above : List ℕ) (root : ℕ → ℕ) (at : ℕ) → at < length above → AreUp above
    → get_or above at 0 ≢ at → IsForest above root
    → IsForest (set above at (get_or above (get_or above at 0) 0)) root
halved above root at inside up apart F =
    let next : ℕ = get_or above at 0 in
    let far : ℕ = get_or above next 0 in
    let low : get_or above at 0 ≤ at = up at inside in
    let less : get_or above at 0 < at = omega arith in
    let within : get_or above at 0 < length above = omega arith in
    let lower : get_or above (get_or above at 0) 0 ≤ get_or above at 0 =
    up (get_or above at 0) within in
    let same : length (set above at far) ≡ length above = length-set above at far in
    record {
      up = λ k few. elim (set_cases above at k far inside) [
        | inl w ↦ ap root w.1 ∙ F.up next within ∙ F.up at inside ∙ ap root (sym w.0)
        | inr w ↦ ap root w.1 ∙ F.up k (omega arith)
      ];
      low = F.low;
      top = λ k few. elim (set_cases above at (root k) far inside) [
        | inl w ↦ absurd (apart (ap (λ n. get_or above n 0) (sym w.0) ∙ F.top k (omega arith) ∙
            w.0))
        | inr w ↦ w.1 ∙ F.top k (omega arith)
      ];
      own = λ k few e. elim (set_cases above at k far inside) [
        | inl w ↦ let a = w.0 in let b = w.1 in absurd (omega arith)
        | inr w ↦ F.own k (omega arith) (sym w.1 ∙ e)
      ];
    }

abbrev merged : (root : ℕ → ℕ) → (high low k : ℕ) → ℕ
merged root high low k = if nat_eq (root k) high then low else root k

merged_cases : (root : ℕ → ℕ) (high low k : ℕ)
    → ((root k ≡ high) × (merged root high low k ≡ low))
    ⊎ ((root k ≢ high) × (merged root high low k ≡ root k))
merged_cases root high low k = elim (cases_eq (root k) high) [
  | inl e ↦ inl (e, grind (arith, nat_tests))
  | inr n ↦ inr (n, grind (arith, nat_tests))
]

-- a root comes under another one, or stays where it is the same one
pub linked : (above : List ℕ) (root : ℕ → ℕ) (high low : ℕ) → high < length above → low ≤ high
    → get_or above high 0 ≡ high → get_or above low 0 ≡ low → IsForest above root
    → IsForest (set above high low) (merged root high low)
linked above root high low inside lower is_high is_low F =
    let same : length (set above high low) ≡ length above = length-set above high low in
    let root_high : root high ≡ high = F.own high inside is_high in
    let root_low : root low ≡ low = F.own low (omega arith) is_low in
    let low_merged : merged root high low low ≡ low = elim (merged_cases root high low low) [
      | inl w ↦ w.1
      | inr w ↦ w.1 ∙ root_low
    ] in
    record {
      up = λ k few. elim (set_cases above high k low inside) [
        | inl w ↦ ap (merged root high low) w.1 ∙ low_merged ∙
            (elim (merged_cases root high low k) [
              | inl v ↦ sym v.1
              | inr v ↦ absurd (v.0 (ap root w.0 ∙ root_high))
            ])
        | inr w ↦ ap (merged root high low) w.1
            ∙ ap (λ n. if nat_eq n high then low else n) (F.up k (omega arith))
      ];
      low = λ k. elim (merged_cases root high low k) [
        | inl w ↦ let a = w.0 in let b = w.1 in let h : root k ≤ k = F.low k in omega arith
        | inr w ↦ let b = w.1 in let h : root k ≤ k = F.low k in omega arith
      ];
      top = λ k few. elim (merged_cases root high low k) [
        | inl w ↦ elim (set_cases above high (merged root high low k) low inside) [
          | inl v ↦ v.1 ∙ sym w.1
          | inr v ↦ v.1 ∙ ap (λ n. get_or above n 0) w.1 ∙ is_low ∙ sym w.1
        ]
        | inr w ↦ elim (set_cases above high (merged root high low k) low inside) [
          | inl v ↦ absurd (w.0 (sym w.1 ∙ v.0))
          | inr v ↦ v.1 ∙ ap (λ n. get_or above n 0) w.1 ∙ F.top k (omega arith) ∙ sym w.1
        ]
      ];
      own = λ k few e. elim (set_cases above high k low inside) [
        | inl w ↦ elim (merged_cases root high low k) [
          | inl v ↦ v.1 ∙ sym w.1 ∙ e
          | inr v ↦ absurd (v.0 (ap root w.0 ∙ root_high))
        ]
        | inr w ↦ elim (merged_cases root high low k) [
          | inl v ↦ absurd (w.0 (sym (F.own k (omega arith) (sym w.1 ∙ e)) ∙ v.0))
          | inr v ↦ v.1 ∙ F.own k (omega arith) (sym w.1 ∙ e)
        ]
      ];
    }

-- Settling: those before a place have their roots, the others what was above them.
pub record IsSettled (before now : List ℕ) (i : ℕ) : Type 0 where
  pub many : length now ≡ length before
  pub up : AreUp before
  pub done : (root : ℕ → ℕ) → IsForest before root → (k : ℕ) → k < i → get_or now k 0 ≡ root k
  pub rest : (k : ℕ) → i ≤ k → get_or now k 0 ≡ get_or before k 0

pub settled_start : (before : List ℕ) → AreUp before → IsSettled before before 0
settled_start before up = record {
  many = refl;
  up = up;
  done = λ root F k few. absurd (omega arith);
  rest = λ k few. refl;
}

pub settled_within : (before now : List ℕ) (i : ℕ) → i < length now → IsSettled before now i
    → get_or now i 0 < length now
settled_within before now i inside s =
    let m = s.many in
    let e : get_or now i 0 ≡ get_or before i 0 = s.rest i (omega arith) in
    let low : get_or before i 0 ≤ i = s.up i (omega arith) in
    omega arith

pub settled_more : (before now : List ℕ) (i : ℕ) → i < length now → IsSettled before now i
    → IsSettled before (set now i (get_or now (get_or now i 0) 0)) (i + 1)
settled_more before now i inside s =
    let m = s.many in
    let next : ℕ = get_or now i 0 in
    let far : ℕ = get_or now next 0 in
    let e : get_or now i 0 ≡ get_or before i 0 = s.rest i (omega arith) in
    let low : get_or before i 0 ≤ i = s.up i (omega arith) in
    let within : i < length before = omega arith in
    record {
      many = length-set now i far ∙ m;
      up = s.up;
      done = λ root F k few. elim (set_cases now i k far inside) [
        | inl w ↦ w.1 ∙ (elim (cases_eq (get_or before i 0) i) [
          | inl v ↦ ap (λ n. get_or now n 0) (e ∙ v) ∙ e ∙ v ∙ sym (F.own i within v) ∙ ap root
              (sym w.0)
          | inr v ↦ s.done root F next (omega arith) ∙ ap root e ∙ F.up i within ∙ ap root (sym w.0)
        ])
        | inr w ↦ let n = w.0 in w.1 ∙ s.done root F k (omega arith)
      ];
      rest = λ k few. elim (set_cases now i k far inside) [
        | inl w ↦ let n = w.0 in absurd (omega arith)
        | inr w ↦ w.1 ∙ s.rest k (omega arith)
      ];
    }

merged_joins : (root : ℕ → ℕ) (one other : ℕ)
    → Joins root (merged root (max (root one) (root other)) (min (root one) (root other))) one other
merged_joins root one other =
    let high : ℕ = max (root one) (root other) in
    let low : ℕ = min (root one) (root other) in
    let of_one : merged root (max (root one) (root other)) (min (root one) (root other)) one
    ≡ min (root one) (root other) =
    elim (merged_cases root high low one) [
      | inl w ↦ w.1
      | inr w ↦ let n = w.0 in let v = w.1 in omega arith
    ] in
    let of_other : merged root (max (root one) (root other)) (min (root one) (root other)) other
    ≡ min (root one) (root other) =
    elim (merged_cases root high low other) [
      | inl w ↦ w.1
      | inr w ↦ let n = w.0 in let v = w.1 in omega arith
    ] in
    record {
      joined = of_one ∙ sym of_other;
      keeps = λ j k e. ap (λ n. if nat_eq n high then low else n) e;
      only = λ j k e. elim (merged_cases root high low j) [
        | inl w ↦ elim (merged_cases root high low k) [
          | inl v ↦ inl (w.0 ∙ sym v.0)
          | inr v ↦
              let a : root j ≡ max (root one) (root other) = w.0 in
              let b : root k ≡ min (root one) (root other) = sym v.1 ∙ sym e ∙ w.1 in
              elim (cases_lt (root one) (root other)) [
                | inl h ↦ inr (inr (omega arith, omega arith))
                | inr h ↦ inr (inl (omega arith, omega arith))
              ]
        ]
        | inr w ↦ elim (merged_cases root high low k) [
          | inl v ↦
              let a : root k ≡ max (root one) (root other) = v.0 in
              let b : root j ≡ min (root one) (root other) = sym w.1 ∙ e ∙ v.1 in
              elim (cases_lt (root one) (root other)) [
                | inl h ↦ inr (inl (omega arith, omega arith))
                | inr h ↦ inr (inr (omega arith, omega arith))
              ]
          | inr v ↦ inl (sym w.1 ∙ e ∙ v.1)
        ]
      ];
    }

-- two numbers are joined, by their roots
pub joins : (above : List ℕ) (root : ℕ → ℕ) (one other high low : ℕ) → one < length above
    → other < length above → max (root one) (root other) ≡ high
    → min (root one) (root other) ≡ low → IsForest above root
    → (next : ℕ → ℕ) × IsForest (set above high low) next × Joins root next one other
joins above root one other high low inside other_inside is_high is_low F =
    let a : root one ≤ one = F.low one in
    let b : root other ≤ other = F.low other in
    let top_one = F.top one inside in
    let top_other = F.top other other_inside in
    let high_is : get_or above high 0 ≡ high = elim (cases_lt (root one) (root other)) [
      | inl w ↦
          let e : root other ≡ high = omega arith in
          subst (λ (n : ℕ). get_or above n 0 ≡ n) e top_other
      | inr w ↦
          let e : root one ≡ high = omega arith in
          subst (λ (n : ℕ). get_or above n 0 ≡ n) e top_one
    ] in
    let low_is : get_or above low 0 ≡ low = elim (cases_lt (root one) (root other)) [
      | inl w ↦
          let e : root one ≡ low = omega arith in
          subst (λ (n : ℕ). get_or above n 0 ≡ n) e top_one
      | inr w ↦
          let e : root other ≡ low = omega arith in
          subst (λ (n : ℕ). get_or above n 0 ≡ n) e top_other
    ] in (
      merged root (max (root one) (root other)) (min (root one) (root other)),
      subst (λ (l : ℕ). IsForest (set above high low) (merged root (max (root one) (root other)) l))
          (sym is_low)
          (subst (λ (h : ℕ). IsForest (set above high low) (merged root h low)) (sym is_high)
          (linked above root high low (omega arith) (omega arith) high_is low_is F)),
      merged_joins root one other,
    )

-- each number alone
pub record AreAlone (above : List ℕ) (count : ℕ) : Type 0 where
  pub many : length above ≡ count
  pub each : (k : ℕ) → k < count → get_or above k 0 ≡ k

pub alone_more : (above : List ℕ) (count : ℕ) → AreAlone above count
    → AreAlone (above ++ count ∷ []) (count + 1)
alone_more above count a =
    let m = a.many in
    record {
      many = length_push above count ∙ ap (λ n. n + 1) m;
      each = λ k few. elim (cases_lt k count) [
        | inl w ↦ get_or_append_left above (count ∷ []) 0 k (omega arith) ∙ a.each k w
        | inr w ↦
            let e : k ≡ count = omega arith in
            get_or_push above count 0 k (m ∙ sym e) ∙ sym e
      ];
    }

pub alone_up : (above : List ℕ) (count : ℕ) → AreAlone above count → AreUp above
alone_up above count a k few =
    let m = a.many in
    let e : get_or above k 0 ≡ k = a.each k (omega arith) in
    omega arith

pub alone_roots : (above : List ℕ) (count : ℕ) → AreAlone above count → IsForest above (λ k. k)
alone_roots above count a =
    let m = a.many in
    record {
      up = λ k few. a.each k (omega arith);
      low = λ k. omega arith;
      top = λ k few. a.each k (omega arith);
      own = λ k few e. refl;
    }

-- what a table of numbers that stand alone is
pub ruleset alone_steps = (alone_more, alone_up, alone_roots)
