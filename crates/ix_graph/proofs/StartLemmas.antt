-- Where the PIPs of tiles begin.
use Rattle.std.proofs.Common.{◌≡◌, ◌<◌, ◌≤◌, ap, sym, ◌∙◌, ℕ, ◌+◌, ◌-◌, ◌*◌, ◌^◌, List, [], ◌∷◌, ◌++◌, length, take, slice_get, get_or, Some, unwrap_or, inl, inr, arith}
use mathlib.Core.Logic.{◌⊎◌}
use Rattle.std.specs.List.Sorted.{IsNonDecreasingBy, IsPartitionPoint}
use Rattle.std.proofs.lemmas.Bool.{cases_lt}
use Rattle.std.proofs.lemmas.List.{length_push, get_or_append_left, get_or_push, take_all, take-take}
use Rattle.std.proofs.lemmas.List.Sums.{sum_by-take-le}
use Rattle.std.proofs.lemmas.Option.{slice_get-get_or, slice_get_past, get_or_from_slice_get}
use Rattle.ix_graph.specs.declared.type_pips.TilePip.{TilePip}
use Rattle.ix_graph.specs.Pips.{pips_of_type}
use Rattle.ix_graph.specs.Tables.{pip_count, AreStarts}
use Rattle.ix_graph.proofs.WayLemmas.{count_next}

-- where the PIPs of the first tiles begin, and those of the next
pub record AreBegun (types : List (List TilePip)) (kinds : List ℕ) (i : ℕ) (starts : List ℕ) (next : ℕ) : Type 0 where
  pub count : length starts ≡ i
  pub each : (tile : ℕ) → tile < i → slice_get starts tile ≡ Some (pip_count types (take tile kinds))
  pub begins : next ≡ pip_count types (take i kinds)
  pub few : 2 * next < 2 ^ 32

-- one tile more begins
pub one_more_start : (types : List (List TilePip)) (kinds : List ℕ) (i kind : ℕ) (starts starts' : List ℕ) (next next' : ℕ)
    → slice_get kinds i ≡ Some kind → AreBegun types kinds i starts next → starts' ≡ starts ++ next ∷ [] → next' ≡ next + length (pips_of_type types kind) → 2 * next' < 2 ^ 32
    → AreBegun types kinds (i + 1) starts' next'
one_more_start types kinds i kind starts starts' next next' at are pushed step few = record {
  count = ap length pushed ∙ length_push starts next ∙ ap (λ n. n + 1) are.count;
  each = λ tile within. ap (λ l. slice_get l tile) pushed ∙ by tile within (cases_lt tile i);
  begins = step ∙ ap (λ n. n + length (pips_of_type types kind)) are.begins ∙ sym (count_next types kinds i kind at);
  few = few;
}
  where
    there : (tile : ℕ) → tile < i + 1 → slice_get (starts ++ next ∷ []) tile ≡ Some (get_or (starts ++ next ∷ []) tile 0)
    there tile within = let longer = length_push starts next in let count = are.count in slice_get-get_or (starts ++ next ∷ []) tile 0 (omega arith)

    by : (tile : ℕ) → tile < i + 1 → (tile < i) ⊎ (i ≤ tile) → slice_get (starts ++ next ∷ []) tile ≡ Some (pip_count types (take tile kinds))
    by tile within (inl h) =
        let count = are.count in
        there tile within ∙ ap Some (get_or_append_left starts (next ∷ []) 0 tile (omega arith) ∙ get_or_from_slice_get starts tile (pip_count types (take tile kinds)) 0 (are.each tile h))
    by tile within (inr h) =
        let same : i ≡ tile = omega arith in
        there tile within ∙ ap Some (get_or_push starts next 0 tile (are.count ∙ same) ∙ are.begins ∙ ap (λ n. pip_count types (take n kinds)) same)

-- all tiles begin
pub all_begun : (types : List (List TilePip)) (kinds : List ℕ) (i : ℕ) (starts : List ℕ) (next : ℕ) → length kinds ≤ i → i ≤ length kinds → length kinds < 2 ^ 32 → AreBegun types kinds i starts next → AreStarts types kinds starts
all_begun types kinds i starts next least most few_tiles are =
    let end : i ≡ length kinds = omega arith in
    let all = are.begins ∙ ap (pip_count types) (take_all i kinds least) in
    let few = are.few in
    record {
      same_length = are.count ∙ end;
      each = λ tile within. are.each tile (omega arith);
      few = omega arith;
      few_tiles = few_tiles;
    }

module _ (types : List (List TilePip)) (kinds starts : List ℕ) (are : AreStarts types kinds starts) where
  start_at : (tile : ℕ) (d : ℕ) → tile < length kinds → get_or starts tile d ≡ pip_count types (take tile kinds)
  start_at tile d within = get_or_from_slice_get starts tile (pip_count types (take tile kinds)) d (are.each tile within)

  -- starts never fall
  pub rising : IsNonDecreasingBy (λ s. s) starts
  rising i j d le within =
      let same = are.same_length in
      let start_i = start_at i d (omega arith) in
      let start_j = start_at j d (omega arith) in
      let less = sum_by-take-le (λ ty. length (pips_of_type types ty)) (take j kinds) i in
      let taken = ap (pip_count types) (take-take i j kinds le) in
      omega arith

  -- the last tile that begins at a PIP or before
  module _ (number i : ℕ) (point : IsPartitionPoint (λ s. s ≤ number) (λ s. number < s) starts i) (most : i ≤ length kinds) (within : number < pip_count types kinds) where
    pub not_first : 1 ≤ i
    not_first = by (cases_lt 0 i)
      where
        none : i ≡ 0 → (0 < length kinds) ⊎ (length kinds ≤ 0) → 1 ≤ i
        none h (inl some) =
            let same = are.same_length in
            let first = point.1 0 0 (omega arith) (omega arith) in
            let start : get_or starts 0 0 ≡ 0 = start_at 0 0 some in
            omega arith
        none h (inr empty) =
            let all : 0 ≡ pip_count types kinds = ap (pip_count types) (take_all 0 kinds empty) in
            omega arith

        by : (0 < i) ⊎ (i ≤ 0) → 1 ≤ i
        by (inl h) = omega arith
        by (inr h) = none (omega arith) (cases_lt 0 (length kinds))

    pub tile_within : i - 1 < length kinds
    tile_within = let same = are.same_length in let first = not_first in omega arith

    pub tile_begins : pip_count types (take (i - 1) kinds) ≤ number
    tile_begins =
        let first = not_first in
        let inside = tile_within in
        let at = point.0 (i - 1) 0 (omega arith) (omega arith) in
        let start = start_at (i - 1) 0 inside in
        omega arith

    pub tile_ends : number < pip_count types (take (i - 1 + 1) kinds)
    tile_ends = by (cases_lt i (length kinds))
      where
        again : i ≡ i - 1 + 1
        again = let first = not_first in omega arith

        by : (i < length kinds) ⊎ (length kinds ≤ i) → number < pip_count types (take (i - 1 + 1) kinds)
        by (inl h) =
            let same = are.same_length in
            let next = point.1 i 0 (omega arith) (omega arith) in
            let start = start_at i 0 h ∙ ap (λ n. pip_count types (take n kinds)) again in
            omega arith
        by (inr h) =
            let all = ap (pip_count types) (ap (λ n. take n kinds) (sym again) ∙ take_all i kinds h) in
            omega arith

  -- the directed PIPs of a tile have numbers of 32 bits
  pub numbers_fit : (tile kind place : ℕ) → slice_get kinds tile ≡ Some kind → place < length (pips_of_type types kind) → 2 * (pip_count types (take tile kinds) + place) + 1 < 2 ^ 32
  numbers_fit tile kind place at within =
      let next = count_next types kinds tile kind at in
      let most = sum_by-take-le (λ ty. length (pips_of_type types ty)) kinds (tile + 1) in
      let few = are.few in
      omega arith

-- a type that has PIPs is there
pub type_there : (types : List (List TilePip)) (kind place : ℕ) → place < length (pips_of_type types kind) → kind < length types
type_there types kind place within = by (cases_lt kind (length types))
  where
    by : (kind < length types) ⊎ (length types ≤ kind) → kind < length types
    by (inl h) = h
    by (inr h) = let none = ap (λ o. length (unwrap_or o [])) (slice_get_past types kind h) in omega arith
