-- Rows that lie one after another.
use Rattle.std.proofs.Common.{◌≡◌, ◌<◌, ◌≤◌, ◌+◌, ◌-◌, ◌∙◌, ap, sym, ℕ, List, length, map}
use Rattle.std.proofs.Common.{slice_get, get_or, Some, [], arith}
use Rattle.std.specs.Prelude.{slice_index, slice_range}
use Rattle.std.specs.List.{range_with_len}
use Rattle.std.proofs.lemmas.List.{get_or_read}
use Rattle.std.proofs.lemmas.Option.{slice_get-get_or}
use Rattle.std.proofs.lemmas.List.FromFn.{get_or-map-range_with_len, length-map-range_with_len}
use Rattle.ix_ends.specs.Rows.{row_at, rows_of, AreStarts}

module _ {A : Type 0} (starts : List ℕ) (items : List A) where
  -- there are as many rows as places but one
  pub rows_count : length (rows_of starts items) ≡ length starts - 1
  unfolding rows_of
  rows_count = length-map-range_with_len (row_at starts items) 0 (length starts - 1)

  pub row_is : (n : ℕ) → n + 1 < length starts
      → slice_get (rows_of starts items) n ≡ Some (row_at starts items n)
  unfolding rows_of
  row_is n lt =
      let count : length (map (row_at starts items) (range_with_len 0 (length starts - 1)))
      ≡ length starts - 1
      = length-map-range_with_len (row_at starts items) 0 (length starts - 1) in
      slice_get-get_or (map (row_at starts items) (range_with_len 0 (length starts - 1))) n []
      (omega arith)
      ∙ ap Some (get_or-map-range_with_len (row_at starts items) 0 (length starts - 1) n n []
      (omega arith) (omega arith))

-- A row there is: its places, as they are read.
module _ {A : Type 0} (starts : List ℕ) (items : List A) (n : ℕ)
    (there : n < length (rows_of starts items)) where
  pub places_in : n + 1 < length starts
  places_in = let count = rows_count starts items in omega arith

  module _ (start end : ℕ) (first : start ≡ get_or starts n start)
      (last : end ≡ get_or starts (n + 1) end) where
    start_is : start ≡ slice_index starts n
    start_is = let lt = places_in in get_or_read starts n start (omega arith) first 0

    end_is : end ≡ slice_index starts (n + 1)
    end_is = let lt = places_in in get_or_read starts (n + 1) end lt last 0

    pub in_order : AreStarts starts (length items) → start ≤ end
    in_order are =
        let low : slice_index starts n ≤ slice_index starts (n + 1) = are.rise n places_in in
        let a = start_is in
        let b = end_is in
        omega arith

    pub within : AreStarts starts (length items) → end ≤ length items
    within are =
        let low : slice_index starts (n + 1) ≤ length items = are.within (n + 1) places_in in
        let b = end_is in
        omega arith

    pub row_read : slice_get (rows_of starts items) n ≡ Some (slice_range items start end)
    row_read = row_is starts items n places_in
        ∙ ap (λ (k : ℕ). Some (slice_range items k (slice_index starts (n + 1)))) (sym start_is)
        ∙ ap (λ (k : ℕ). Some (slice_range items start k)) (sym end_is)
