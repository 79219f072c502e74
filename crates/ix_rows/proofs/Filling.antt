-- What one write does to the rows, over plain lists.
use Rattle.std.proofs.Common.{◌≡◌, ℕ, ◌+◌, ◌-◌, ◌<◌, ◌≤◌, inl, inr, true, false, List, [], ◌∷◌, ◌++◌, length, set, take, drop, refl, sym, ap, ◌∙◌, subst, arith, if◌then◌else◌}
use Rattle.std.specs.Prelude.{nat_eq, slice_index, slice_range}
use Rattle.std.proofs.lemmas.Bool.{cases_eq, cases_lt, cases_order, eq-eqb, ne_eqb}
use Rattle.std.proofs.lemmas.List.{append-nil, take-set-le, take_more_set, drop-set-lt, drop-set-add, length-drop, length-take, get_or-set_same, get_or-set_other, get_or_past, length-set}
use Rattle.ix_rows.specs.Layout.{AreStarts, AreEnds}

module _ {T : Type 0} (items : List T) (from : ℕ) where
  pub length_between : (to : ℕ) → to ≤ length items → length (slice_range items from to) ≡ to - from
  length_between to h = omega (arith, length-take (to - from) (drop from items), length-drop from items)

  -- a write before a part of the list
  pub written_before : (to at : ℕ) (y : T) → at < from → slice_range (set items at y) from to ≡ slice_range items from to
  written_before to at y h = ap (take (to - from)) (drop-set-lt from items at y h)

  -- a write behind it
  pub written_behind : (to at : ℕ) (y : T) → to ≤ at → slice_range (set items at y) from to ≡ slice_range items from to
  written_behind to at y h = elim (cases_lt at from) [
    | inl before ↦ written_before to at y before
    | inr behind ↦
        let e : at ≡ from + (at - from) = omega arith in
        ap (λ n. take (to - from) (drop from (set items n y))) e ∙ ap (take (to - from)) (drop-set-add from items (at - from) y) ∙ take-set-le (to - from) (drop from items) (at - from) y (omega arith)
  ]

  -- a write right at its end
  pub written_at_end : (at : ℕ) (y : T) → from ≤ at → at < length items → slice_range (set items at y) from (at + 1) ≡ slice_range items from at ++ y ∷ []
  written_at_end at y low high =
      let e : at ≡ from + (at - from) = omega arith in
      let n : at + 1 - from ≡ (at - from) + 1 = omega arith in
      ap (λ n. take n (drop from (set items at y))) n ∙ ap (λ n. take ((at - from) + 1) (drop from (set items n y))) e ∙ ap (take ((at - from) + 1)) (drop-set-add from items (at - from) y)
      ∙ take_more_set (drop from items) (at - from) y (omega (arith, length-drop from items))

-- the rows after an item is put at the end of one of them
module _ {T : Type 0} (starts ends : List ℕ) (items : List T) (rise : AreStarts starts (length items)) (within : AreEnds starts ends) where
  -- no row ends behind the items
  pub ends_in : (r : ℕ) → r ≤ length ends → slice_index starts r ≤ length items
  ends_in r h =
      let n = within.rows in
      let e : length starts - 1 ≡ length ends = omega arith in
      let last : slice_index starts (length ends) ≡ length items = ap (slice_index starts) (sym e) ∙ rise.last in
      omega (arith, last, rise.rise r (length ends) h (omega arith))

  module _ (row : ℕ) (item : T) (is_row : row < length ends) (has_room : length (slice_range items (slice_index starts row) (slice_index ends row)) < slice_index starts (row + 1) - slice_index starts row) (place : ℕ) (at_end : place ≡ slice_index ends row) where
    -- the place for the item is in the row's room
    pub room : place < slice_index starts (row + 1)
    room =
        let high : place ≤ length items = omega (arith, within.below row is_row, ends_in (row + 1) (omega arith)) in
        omega (arith, has_room, length_between items (slice_index starts row) (slice_index ends row) (omega arith), within.above row is_row)

    abbrev ends_after : List ℕ
    ends_after = set ends row (place + 1)

    abbrev before : ℕ → List T
    before r = slice_range items (slice_index starts r) (slice_index ends r)

    abbrev after : ℕ → List T
    after r = slice_range (set items place item) (slice_index starts r) (slice_index ends_after r)

    pub place_in : place < length items
    place_in = omega (arith, room, ends_in (row + 1) (omega arith))

    same_end : (r : ℕ) → (r ≡ row → ⊥) → slice_index ends_after r ≡ slice_index ends r
    same_end r other = get_or-set_other ends row r (place + 1) 0 other

    of_other : (r : ℕ) → (r ≡ row → ⊥) → slice_range (set items place item) (slice_index starts r) (slice_index ends r) ≡ before r → after r ≡ before r ++ (if nat_eq row r then item ∷ [] else [])
    of_other r other same =
        let e : nat_eq row r ≡ false = ne_eqb row r (λ h. other (sym h)) in
        ap (slice_range (set items place item) (slice_index starts r)) (same_end r other) ∙ same ∙ sym (append-nil (before r)) ∙ ap (λ b. before r ++ (if b then item ∷ [] else [])) (sym e)

    of_row : after row ≡ before row ++ (if nat_eq row row then item ∷ [] else [])
    of_row =
        let e : nat_eq row row ≡ true = eq-eqb row row refl in
        ap (slice_range (set items place item) (slice_index starts row)) (get_or-set_same ends row (place + 1) 0 is_row)
        ∙ written_at_end items (slice_index starts row) place item (omega (arith, within.above row is_row)) place_in
        ∙ ap (λ n. slice_range items (slice_index starts row) n ++ item ∷ []) at_end
        ∙ ap (λ b. before row ++ (if b then item ∷ [] else [])) (sym e)

    -- a row before it ends before the place, a row behind it starts behind
    pub row_after : (r : ℕ) → after r ≡ before r ++ (if nat_eq row r then item ∷ [] else [])
    row_after r = elim (cases_order r row) [
      | inl same ↦ subst (λ k. after k ≡ before k ++ (if nat_eq row k then item ∷ [] else [])) (sym same) of_row
      | inr (inl earlier) ↦ of_other r (λ h. omega arith) (written_behind items (slice_index starts r) (slice_index ends r) place item (omega (arith, within.below r (omega arith), rise.rise (r + 1) row (omega arith) (omega (arith, within.rows)), within.above row is_row)))
      | inr (inr later) ↦ elim (cases_lt r (length ends)) [
        | inl is ↦ of_other r (λ h. omega arith) (written_before items (slice_index starts r) (slice_index ends r) place item (omega (arith, room, rise.rise (row + 1) r (omega arith) (omega (arith, within.rows)))))
        | inr past ↦ of_other r (λ h. omega arith) (written_behind items (slice_index starts r) (slice_index ends r) place item (omega (arith, get_or_past ends r 0 past)))
      ]
    ]

    ends_within : (r : ℕ) → r < length ends → (slice_index starts r ≤ slice_index ends_after r) × (slice_index ends_after r ≤ slice_index starts (r + 1))
    ends_within r h = elim (cases_eq r row) [
      | inl same ↦
          let e : slice_index ends_after row ≡ place + 1 = get_or-set_same ends row (place + 1) 0 is_row in
          subst (λ k. (slice_index starts k ≤ slice_index ends_after k) × (slice_index ends_after k ≤ slice_index starts (k + 1))) (sym same) (omega (arith, e, within.above row is_row), omega (arith, e, room))
      | inr other ↦ let e = same_end r other in (omega (arith, e, within.above r h), omega (arith, e, within.below r h))
    ]

    pub AreEnds-after : AreEnds starts ends_after
    AreEnds-after =
        let n : length ends_after ≡ length ends = length-set ends row (place + 1) in
        record {
          rows = within.rows ∙ ap (λ k. k + 1) (sym n);
          above = λ r h. (ends_within r (omega arith)).0;
          below = λ r h. (ends_within r (omega arith)).1;
        }

    pub AreStarts-after : AreStarts starts (length (set items place item))
    AreStarts-after = subst (AreStarts starts) (sym (length-set items place item)) rise
