-- The tile wires of a device: a wire and those before it.
use Rattle.std.proofs.Common.{◌≡◌, ◌<◌, ◌≤◌, refl, ap, sym, ◌∙◌, ℕ, zero, suc, ◌+◌, Bool, true, false, ◌&&◌, ◌||◌, nat_eq, List, [], ◌∷◌, ◌++◌, map, take, drop, length, slice_get, Some, append_assoc, append-nil, take-append-drop, arith}
use Rattle.std.specs.List.{list_any, range_with_len}
use Rattle.std.proofs.lemmas.Bool.{eq-eqb, ne_eqb}
use Rattle.std.proofs.lemmas.List.FromFn.{take-map-range_with_len, map-range_with_len_more}
use Rattle.std.proofs.lemmas.List.Folds.{list_any-append}
use Rattle.ix_rec.specs.declared.device.DeviceRec.{DeviceRec}
use Rattle.ix_rec.specs.declared.device.Tile.{Tile}
use Rattle.ix_device.proofs.Walks.{take_next, length_take}
use Rattle.ix_graph.specs.Nodes.{wire_count, wires_in, wires_from, tile_wires, is_wire}
use Rattle.ix_graph.specs.NodeTables.{wires_before}

-- the wires of a tile, with one more
pub wires_in_more : (tile i : ℕ) → wires_in tile (i + 1) ≡ wires_in tile i ++ (tile, i) ∷ []
wires_in_more tile i = map-range_with_len_more (λ w. (tile, w)) 0 i i (omega arith)

-- the wires of a tile before one of them, it, and the others
after_wire : (tile count i : ℕ) → i < count → wires_in tile count ≡ wires_in tile i ++ (tile, i) ∷ drop (i + 1) (wires_in tile count)
after_wire tile count i h =
    sym (take-append-drop (i + 1) (wires_in tile count))
    ∙ ap (λ l. l ++ drop (i + 1) (wires_in tile count)) (take-map-range_with_len (λ w. (tile, w)) 0 count (i + 1) (omega arith) ∙ wires_in_more tile i)
    ∙ append_assoc (wires_in tile i) ((tile, i) ∷ []) (drop (i + 1) (wires_in tile count))

-- the wires of tiles one after another
wires_from-append : (rec : DeviceRec) (first : ℕ) (ts us : List Tile) → wires_from rec first (ts ++ us) ≡ wires_from rec first ts ++ wires_from rec (first + length ts) us
unfolding wires_from
wires_from-append rec first [] us = ap (λ n. wires_from rec n us) (omega arith)
wires_from-append rec first (t ∷ ts) us =
    ap (λ l. wires_in first (wire_count rec t) ++ l) (wires_from-append rec (first + 1) ts us ∙ ap (λ n. wires_from rec (first + 1) ts ++ wires_from rec n us) (omega arith))
    ∙ sym (append_assoc (wires_in first (wire_count rec t)) (wires_from rec (first + 1) ts) (wires_from rec (first + length (t ∷ ts)) us))

one_tile : (rec : DeviceRec) (n tile : ℕ) (t : Tile) (us : List Tile) → n ≡ tile → wires_from rec n (t ∷ us) ≡ wires_in tile (wire_count rec t) ++ wires_from rec (tile + 1) us
unfolding wires_from
one_tile rec n tile t us e = ap (λ m. wires_in m (wire_count rec t) ++ wires_from rec (m + 1) us) e

before_tile : (rec : DeviceRec) (tile : ℕ) (t : Tile) → slice_get rec.tile_list tile ≡ Some t → 0 + length (take tile rec.tile_list) ≡ tile
before_tile rec tile t at = let len = length_take rec.tile_list tile t at in omega arith

-- the wires of the tiles before a tile, its own, and those of the others
tile_by_tile : (rec : DeviceRec) (tile : ℕ) (t : Tile) → slice_get rec.tile_list tile ≡ Some t
    → tile_wires rec ≡ wires_before rec tile ++ (wires_in tile (wire_count rec t) ++ wires_from rec (tile + 1) (drop (tile + 1) rec.tile_list))
tile_by_tile rec tile t at =
    ap (wires_from rec 0) (sym (take-append-drop (tile + 1) rec.tile_list) ∙ ap (λ l. l ++ drop (tile + 1) rec.tile_list) (take_next rec.tile_list tile t at) ∙ append_assoc (take tile rec.tile_list) (t ∷ []) (drop (tile + 1) rec.tile_list))
    ∙ wires_from-append rec 0 (take tile rec.tile_list) (t ∷ drop (tile + 1) rec.tile_list)
    ∙ ap (λ l. wires_before rec tile ++ l) (one_tile rec (0 + length (take tile rec.tile_list)) tile t (drop (tile + 1) rec.tile_list) (before_tile rec tile t at))

nothing_after : (rec : DeviceRec) (tile : ℕ) (ws : List (ℕ × ℕ)) → ws ++ wires_from rec (tile + 1) [] ≡ ws
unfolding wires_from
nothing_after rec tile ws = append-nil ws

-- the wires before the next tile are those before this one and its own
pub wires_before_more : (rec : DeviceRec) (tile : ℕ) (t : Tile) → slice_get rec.tile_list tile ≡ Some t → wires_before rec (tile + 1) ≡ wires_before rec tile ++ wires_in tile (wire_count rec t)
wires_before_more rec tile t at =
    ap (wires_from rec 0) (take_next rec.tile_list tile t at) ∙ wires_from-append rec 0 (take tile rec.tile_list) (t ∷ [])
    ∙ ap (λ l. wires_before rec tile ++ l) (one_tile rec (0 + length (take tile rec.tile_list)) tile t [] (before_tile rec tile t at) ∙ nothing_after rec tile (wires_in tile (wire_count rec t)))

-- a wire of a tile, those before it and those after it
pub around_wire : (rec : DeviceRec) (tile : ℕ) (t : Tile) (i : ℕ) → slice_get rec.tile_list tile ≡ Some t → i < wire_count rec t
    → (after : List (ℕ × ℕ)) × (tile_wires rec ≡ (wires_before rec tile ++ wires_in tile i) ++ (tile, i) ∷ after)
around_wire rec tile t i at h = (
  drop (i + 1) (wires_in tile (wire_count rec t)) ++ wires_from rec (tile + 1) (drop (tile + 1) rec.tile_list),
  tile_by_tile rec tile t at
      ∙ ap (λ l. wires_before rec tile ++ (l ++ wires_from rec (tile + 1) (drop (tile + 1) rec.tile_list))) (after_wire tile (wire_count rec t) i h)
      ∙ ap (λ l. wires_before rec tile ++ l) (append_assoc (wires_in tile i) ((tile, i) ∷ drop (i + 1) (wires_in tile (wire_count rec t))) (wires_from rec (tile + 1) (drop (tile + 1) rec.tile_list)))
      ∙ sym (append_assoc (wires_before rec tile) (wires_in tile i) ((tile, i) ∷ (drop (i + 1) (wires_in tile (wire_count rec t)) ++ wires_from rec (tile + 1) (drop (tile + 1) rec.tile_list)))),
)

none_in_range : (p : ℕ × ℕ → Bool) (tile first n : ℕ) → ((i : ℕ) → first ≤ i → i < first + n → p (tile, i) ≡ false) → list_any p (map (λ w. (tile, w)) (range_with_len first n)) ≡ false
none_in_range p tile first zero h = refl
none_in_range p tile first (suc n) h =
    ap (λ b. b || list_any p (map (λ w. (tile, w)) (range_with_len (first + 1) n))) (h first (omega arith) (omega arith)) ∙ none_in_range p tile (first + 1) n (λ i low high. h i (omega arith) (omega arith))

other_tile : (tile i u j : ℕ) → (tile ≡ u → ⊥) → is_wire (tile, i) (u, j) ≡ false
other_tile tile i u j apart = ap (λ b. b && nat_eq i j) (ne_eqb tile u apart)

other_place : (tile i u j : ℕ) → (i ≡ j → ⊥) → is_wire (tile, i) (u, j) ≡ false
other_place tile i u j apart = ap (λ b. nat_eq tile u && b) (ne_eqb i j apart) ∙ by (nat_eq tile u)
  where
    by : (b : Bool) → (b && false) ≡ false
    by true = refl
    by false = refl

none_of_tiles : (rec : DeviceRec) (tile i first : ℕ) (ts : List Tile) → first + length ts ≤ tile → list_any (is_wire (tile, i)) (wires_from rec first ts) ≡ false
unfolding wires_from
none_of_tiles rec tile i first [] h = refl
none_of_tiles rec tile i first (t ∷ ts) h =
    list_any-append (is_wire (tile, i)) (wires_in first (wire_count rec t)) (wires_from rec (first + 1) ts)
    ∙ ap (λ b. b || list_any (is_wire (tile, i)) (wires_from rec (first + 1) ts)) (none_in_range (is_wire (tile, i)) first 0 (wire_count rec t) (λ j low high. other_tile tile i first j (λ e. omega arith)))
    ∙ none_of_tiles rec tile i (first + 1) ts (omega arith)

-- no wire before it is the same wire
pub not_before : (rec : DeviceRec) (tile : ℕ) (t : Tile) (i : ℕ) → slice_get rec.tile_list tile ≡ Some t → list_any (is_wire (tile, i)) (wires_before rec tile ++ wires_in tile i) ≡ false
not_before rec tile t i at =
    list_any-append (is_wire (tile, i)) (wires_before rec tile) (wires_in tile i)
    ∙ ap (λ b. b || list_any (is_wire (tile, i)) (wires_in tile i)) (none_of_tiles rec tile i 0 (take tile rec.tile_list) (let len = length_take rec.tile_list tile t at in omega arith))
    ∙ none_in_range (is_wire (tile, i)) tile 0 i (λ j low high. other_place tile i tile j (λ e. omega arith))

pub same_wire : (w : ℕ × ℕ) → is_wire w w ≡ true
same_wire w = ap (λ b. b && nat_eq w.1 w.1) (eq-eqb w.0 w.0 refl) ∙ eq-eqb w.1 w.1 refl
