-- One name more is seen.
use Rattle.std.proofs.Common.{◌≡◌, ◌≢◌, ◌⊎◌, ◌<◌, ◌+◌, ◌∙◌, ℕ, List, length, set, get_or, ◌↔◌}
use Rattle.std.proofs.Common.{Some, slice_get, Bool, true, sym, ap, arith, inl, inr}
use Rattle.std.proofs.Common.{length-set, get_or-set_same, get_or-set_other}
use Rattle.std.proofs.lemmas.Bool.{cases_lt, cases_eq}
use Rattle.std.proofs.lemmas.Option.{same_Some, slice_get_within, slice_get-get_or}
use Rattle.std.proofs.lemmas.Option.{get_or_from_slice_get}
use Rattle.ix_second_names.specs.Seconds.{IsFirstSecond}
use Rattle.ix_second_names.specs.Seen.{AreSeen}

set_cases : (marks : List Bool) (i k : ℕ) → i < length marks
    → ((k ≡ i) × (slice_get (set marks i true) k ≡ Some true))
    ⊎ ((k ≢ i) × ((slice_get (set marks i true) k ≡ Some true)
    ↔ (slice_get marks k ≡ Some true)))
set_cases marks i k few =
    let same : length (set marks i true) ≡ length marks = length-set marks i true in
    elim (cases_eq k i) [
      | inl e ↦ inl (
        e,
        slice_get-get_or (set marks i true) k true (omega arith)
            ∙ ap Some (ap (λ n. get_or (set marks i true) n true) e
            ∙ get_or-set_same marks i true true few),
      )
      | inr n ↦ inr (
        n,
        (
          λ h.
              let w : k < length (set marks i true) =
              slice_get_within (set marks i true) k true h in
              slice_get-get_or marks k true (omega arith)
              ∙ ap Some (sym (get_or-set_other marks i k true true n)
              ∙ get_or_from_slice_get (set marks i true) k true true h),
          λ h.
              let w : k < length marks = slice_get_within marks k true h in
              slice_get-get_or (set marks i true) k true (omega arith)
              ∙ ap Some (get_or-set_other marks i k true true n
              ∙ get_or_from_slice_get marks k true true h),
        ),
      )
    ]

pub seen_second : (names : List ℕ) (marks : List Bool) (count place name : ℕ)
    → AreSeen names marks count place → slice_get names place ≡ Some name
    → slice_get marks name ≡ Some true → IsFirstSecond names place
seen_second names marks count place name S is marked =
    let w = (S.each name).0 marked in
    record {
      second = record { name = name; is = is; earlier = w.0; before = w.1; there = w.2 };
      first = S.none;
    }

pub seen_more : (names : List ℕ) (marks : List Bool) (count place name : ℕ)
    → AreSeen names marks count place → slice_get names place ≡ Some name
    → name < length marks → (slice_get marks name ≡ Some true → ⊥)
    → AreSeen names (set marks name true) count (place + 1)
seen_more names marks count place name S is few unmarked = record {
  many = length-set marks name true ∙ S.many;
  each = λ other. elim (set_cases marks name other few) [
    | inl w ↦ (λ h. (place, omega arith, is ∙ ap Some (sym w.0)), λ h. w.1)
    | inr w ↦ (
      λ h. let v = (S.each other).0 (w.1.0 h) in let l = v.1 in (v.0, omega arith, v.2),
      λ v. w.1.1 ((S.each other).1 (earlier other w.0 v.0 v.1 v.2)),
    )
  ];
  none = λ k less T. elim (cases_lt k place) [
    | inl before ↦ S.none k before T
    | inr last ↦
        let e : k ≡ place = omega arith in
        let same : T.name ≡ name = same_Some T.name name (sym T.is ∙ ap (slice_get names) e ∙ is) in
        let l = T.before in
        unmarked ((S.each name).1 (T.earlier, omega arith, T.there ∙ ap Some same))
  ];
}
  where
    earlier : (other : ℕ) → other ≢ name → (j : ℕ) → j < place + 1
        → slice_get names j ≡ Some other
        → (j : ℕ) × (j < place) × (slice_get names j ≡ Some other)
    earlier other apart j less h = elim (cases_lt j place) [
      | inl w ↦ (j, w, h)
      | inr w ↦
          let e : j ≡ place = omega arith in
          absurd (apart (same_Some other name (sym h ∙ ap (slice_get names) e ∙ is)))
    ]
