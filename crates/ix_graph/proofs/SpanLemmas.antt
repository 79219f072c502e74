-- The spans of nodes, and the greatest of them.
use Rattle.std.proofs.Common.{◌≡◌, refl, ap, sym, ◌∙◌, subst, ℕ, zero, suc, ◌+◌, ◌<◌, ◌≤◌, ◌≢◌, Bool, true, false, ◌||◌, ◌⊎◌, inl, inr, cond, nat_eq, List, [], ◌∷◌, ◌++◌, map, take, length, slice_get, max, get_or, Option, Some, None, option_map, arith}
use Rattle.std.specs.List.{cons_option, fold, filter, filter_map, list_any, AllByRecursion, range_with_len}
use Rattle.std.proofs.lemmas.Bool.{eq-eqb, cases_eq, cases_lt, or_left, or_right}
use Rattle.std.proofs.lemmas.Option.{same_Some, get_or_from_slice_get, slice_get-get_or}
use Rattle.std.proofs.lemmas.List.{take_all}
use Rattle.std.proofs.lemmas.List.Elements.{filter-append, filter_map-append}
use Rattle.std.proofs.lemmas.List.FromFn.{fill_by_all}
use Rattle.ix_rec.specs.declared.device.DeviceRec.{DeviceRec}
use Rattle.ix_rec.specs.declared.device.Tile.{Tile}
use Rattle.ix_device.specs.Lookups.{row_and_column}
use Rattle.ix_graph.specs.declared.spans.TileBox.{TileBox}
use Rattle.ix_graph.specs.Nodes.{wire_count, wires_in, wires_from, tile_wires, wires_of_node, node_of, nodes_from}
use Rattle.ix_graph.specs.Spans.{places_of_node, span, greatest}
use Rattle.ix_graph.specs.Boxes.{AreWidened, IsBox, box_of, span_of_box}
use Rattle.ix_graph.proofs.BoxLemmas.{all_boxes, all_spans, greatest_first}
use Rattle.ix_graph.proofs.TileWires.{wires_before_more}
use Rattle.ix_graph.proofs.TileLemmas.{nodes_at}

-- the places of a node's wires, of these wires
abbrev pub places_among : DeviceRec → List (ℕ × ℕ) → ℕ → List (ℕ × ℕ)
places_among rec ws n = filter_map (λ w. row_and_column rec w.0) (filter (λ w. nat_eq (node_of rec w) n) ws)

-- The boxes of the nodes, as far as these tiles give them.
pub record AreBoxes (rec : DeviceRec) (tiles : List Tile) (count : ℕ) (boxes : List (Option TileBox)) : Type 0 where
  pub as_many : length boxes ≡ count
  pub each : (n : ℕ) → n < count → slice_get boxes n ≡ Some (box_of (places_among rec (wires_from rec 0 tiles) n))

-- before the first tile there are none
pub no_boxes : (rec : DeviceRec) (count : ℕ) (boxes : List (Option TileBox)) → length boxes ≡ count → ((n : ℕ) → n < count → get_or boxes n None ≡ None) → AreBoxes rec [] count boxes
unfolding wires_from
no_boxes rec count boxes len none = record { as_many = len; each = λ n lt. slice_get-get_or boxes n None (omega arith) ∙ ap Some (none n lt) }

module _ (rec : DeviceRec) (n tile : ℕ) (place : ℕ × ℕ) (at : row_and_column rec tile ≡ Some place) where
  abbrev its_wires : List ℕ → List (ℕ × ℕ)
  its_wires ws = map (λ w. (tile, w)) ws

  abbrev place_each : List ℕ → List (ℕ × ℕ)
  place_each ms = map (λ _. place) (filter (λ m. nat_eq m n) ms)

  -- all wires of a tile have its place
  places_in_range : (ws : List ℕ) → places_among rec (its_wires ws) n ≡ place_each (map (node_of rec) (its_wires ws))
  places_in_range [] = refl
  places_in_range (w ∷ ws) = by (nat_eq (node_of rec (tile, w)) n) (places_in_range ws)
    where
      by : (b : Bool) → places_among rec (its_wires ws) n ≡ place_each (map (node_of rec) (its_wires ws))
          → filter_map (λ v. row_and_column rec v.0) (cond b ((tile, w) ∷ filter (λ v. nat_eq (node_of rec v) n) (its_wires ws)) (filter (λ v. nat_eq (node_of rec v) n) (its_wires ws)))
          ≡ map (λ _. place) (cond b (node_of rec (tile, w) ∷ filter (λ m. nat_eq m n) (map (node_of rec) (its_wires ws))) (filter (λ m. nat_eq m n) (map (node_of rec) (its_wires ws))))
      by true rest = ap (λ o. cons_option o (places_among rec (its_wires ws) n)) at ∙ ap (λ ps. place ∷ ps) rest
      by false rest = rest

module _ (rec : DeviceRec) (tile : ℕ) (t : Tile) (at : slice_get rec.tile_list tile ≡ Some t) (ns : List ℕ) (its : slice_get (nodes_from rec 0 rec.tile_list) tile ≡ Some ns) where
  same_nodes : map (node_of rec) (wires_in tile (wire_count rec t)) ≡ ns
  same_nodes = same_Some (map (node_of rec) (wires_in tile (wire_count rec t))) ns (sym (nodes_at rec tile t at) ∙ its)

  -- one tile more gives its place for each of its wires that is of the node
  places_next : (n : ℕ) → places_among rec (wires_from rec 0 (take (tile + 1) rec.tile_list)) n
      ≡ places_among rec (wires_from rec 0 (take tile rec.tile_list)) n ++ map (λ _. (t.row, t.col)) (filter (λ m. nat_eq m n) ns)
  places_next n =
      let before = wires_from rec 0 (take tile rec.tile_list) in
      let own = wires_in tile (wire_count rec t) in
      let is_of : ℕ × ℕ → Bool = λ w. nat_eq (node_of rec w) n in
      ap (λ ws. places_among rec ws n) (wires_before_more rec tile t at)
      ∙ ap (filter_map (λ w. row_and_column rec w.0)) (filter-append is_of before own)
      ∙ filter_map-append (λ w. row_and_column rec w.0) (filter is_of before) (filter is_of own)
      ∙ ap (λ ps. places_among rec before n ++ ps) (places_in_range rec n tile (t.row, t.col) (ap (option_map (λ u. (u.row, u.col))) at) (range_with_len 0 (wire_count rec t)))
      ∙ ap (λ ms. places_among rec before n ++ map (λ _. (t.row, t.col)) (filter (λ m. nat_eq m n) ms)) same_nodes

  -- the boxes with one tile more
  pub one_more_tile : (count : ℕ) (now new : List (Option TileBox)) → AreWidened (t.row, t.col) ns now new → AreBoxes rec (take tile rec.tile_list) count now → AreBoxes rec (take (tile + 1) rec.tile_list) count new
  one_more_tile count now new step h = record {
    as_many = step.count ∙ h.as_many;
    each = λ n lt. step.each n (places_among rec (wires_from rec 0 (take tile rec.tile_list)) n) (h.each n lt) ∙ ap (λ ps. Some (box_of ps)) (sym (places_next n));
  }

-- with all tiles, the places are those of the nodes
pub all_places : (rec : DeviceRec) (n : ℕ) → places_among rec (tile_wires rec) n ≡ places_of_node rec n
unfolding wires_of_node
all_places rec n = refl

-- behind the last tile, the boxes are those of the nodes
pub boxes_of_all : (rec : DeviceRec) (count i : ℕ) (boxes : List (Option TileBox)) → length rec.tile_list ≤ i → AreBoxes rec (take i rec.tile_list) count boxes → boxes ≡ map (λ n. box_of (places_of_node rec n)) (range_with_len 0 count)
boxes_of_all rec count i boxes past h =
    fill_by_all (λ n. box_of (places_of_node rec n)) boxes count None h.as_many
    (λ n lt. get_or_from_slice_get boxes n (box_of (places_of_node rec n)) None
    (h.each n lt ∙ ap (λ ts. Some (box_of (places_among rec (wires_from rec 0 ts) n))) (take_all i rec.tile_list past) ∙ ap (λ ps. Some (box_of ps)) (all_places rec n)))

-- the greatest span from the boxes
pub greatest_of_boxes : (rec : DeviceRec) (count : ℕ) (boxes : List (Option TileBox)) → boxes ≡ map (λ n. box_of (places_of_node rec n)) (range_with_len 0 count) → greatest (map span_of_box boxes) ≡ greatest (map (span rec) (range_with_len 0 count))
greatest_of_boxes rec count boxes h = ap (λ bs. greatest (map span_of_box bs)) h ∙ ap greatest (all_spans (places_of_node rec) 0 count)

-- in each box the least comes first
pub boxes_in_order : (rec : DeviceRec) (count : ℕ) (boxes : List (Option TileBox)) → boxes ≡ map (λ n. box_of (places_of_node rec n)) (range_with_len 0 count) → AllByRecursion IsBox boxes
boxes_in_order rec count boxes h = subst (AllByRecursion IsBox) (sym h) (all_boxes (places_of_node rec) 0 count)

-- What the greatest of some numbers is.

no_more_than : (f : ℕ → ℕ) (first count from n : ℕ) → first ≤ n → n < first + count → f n ≤ fold max from (map f (range_with_len first count))
no_more_than f first zero from n low high = absurd (omega arith)
no_more_than f first (suc count) from n low high = by (cases_eq n first) (λ above. no_more_than f (first + 1) count (max from (f first)) n above (omega arith))
  where
    rest : ℕ
    rest = fold max (max from (f first)) (map f (range_with_len (first + 1) count))

    by : (n ≡ first) ⊎ (n ≢ first) → (first + 1 ≤ n → f n ≤ rest) → f n ≤ rest
    by (inl same) later = let from_first = greatest_first (max from (f first)) (map f (range_with_len (first + 1) count)) in let own = ap f same in omega arith
    by (inr other) later = later (omega arith)

-- the span of a node is no more than the greatest
pub span_no_more : (rec : DeviceRec) (count n : ℕ) → n < count → span rec n ≤ greatest (map (span rec) (range_with_len 0 count))
span_no_more rec count n lt = no_more_than (span rec) 0 count 0 n (omega arith) (omega arith)

-- the greatest of what came before is it still, or a number is
kept_or_one : (from x m : ℕ) (later : Bool) → (m ≡ max from x) ⊎ (later ≡ true) → (m ≡ from) ⊎ ((nat_eq x m || later) ≡ true)
kept_or_one from x m later (inr one) = inr (or_right (nat_eq x m) later one)
kept_or_one from x m later (inl kept) = by (cases_lt from x)
  where
    by : (from < x) ⊎ (x ≤ from) → (m ≡ from) ⊎ ((nat_eq x m || later) ≡ true)
    by (inl more) = let same : x ≡ m = omega arith in inr (or_left (nat_eq x m) later (eq-eqb x m same))
    by (inr less) = inl (omega arith)

-- a fold of `max` ends with what it began with, or with one of the numbers
from_or_one : (f : ℕ → ℕ) (from : ℕ) (ns : List ℕ) → (fold max from (map f ns) ≡ from) ⊎ (list_any (λ n. nat_eq (f n) (fold max from (map f ns))) ns ≡ true)
from_or_one f from [] = inl refl
from_or_one f from (n ∷ ns) =
    let m = fold max (max from (f n)) (map f ns) in
    kept_or_one from (f n) m (list_any (λ k. nat_eq (f k) m) ns) (from_or_one f (max from (f n)) ns)

one_is_greatest : (f : ℕ → ℕ) (n : ℕ) (ns : List ℕ) → list_any (λ k. nat_eq (f k) (greatest (map f (n ∷ ns)))) (n ∷ ns) ≡ true
one_is_greatest f n ns = by (from_or_one f 0 (n ∷ ns))
  where
    by : (greatest (map f (n ∷ ns)) ≡ 0) ⊎ (list_any (λ k. nat_eq (f k) (greatest (map f (n ∷ ns)))) (n ∷ ns) ≡ true) → list_any (λ k. nat_eq (f k) (greatest (map f (n ∷ ns)))) (n ∷ ns) ≡ true
    by (inl none) =
        let own = greatest_first (max 0 (f n)) (map f ns) in
        let same : f n ≡ greatest (map f (n ∷ ns)) = omega arith in
        or_left (nat_eq (f n) (greatest (map f (n ∷ ns)))) (list_any (λ k. nat_eq (f k) (greatest (map f (n ∷ ns)))) ns) (eq-eqb (f n) (greatest (map f (n ∷ ns))) same)
    by (inr one) = one

-- where there is a node, one has the greatest span
pub a_node_has_it : (rec : DeviceRec) (count : ℕ) → 0 < count → list_any (λ n. nat_eq (span rec n) (greatest (map (span rec) (range_with_len 0 count)))) (range_with_len 0 count) ≡ true
a_node_has_it rec zero h = absurd (omega arith)
a_node_has_it rec (suc count) h = one_is_greatest (span rec) 0 (range_with_len 1 count)
