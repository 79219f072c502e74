-- The numbers of tile wires, wire by wire and tile by tile.
use Rattle.std.proofs.Common.{◌≡◌, ◌<◌, refl, ap, sym, subst, ◌∙◌, ℕ, zero, suc, ◌+◌, List, [], ◌∷◌, ◌++◌, map, take, drop, length, slice_get, Option, Some, None, IfSome, option_map, option_and_then, unwrap_or, append_assoc, append-nil, arith}
use Rattle.std.specs.List.{AllByRecursion, filter, flat_map, position}
use Rattle.std.proofs.lemmas.Option.{none-some}
use Rattle.std.proofs.lemmas.List.{take_all, map_push}
use Rattle.std.proofs.lemmas.List.Elements.{filter-append}
use Rattle.ix_first.specs.First.{value_of}
use Rattle.ix_first.specs.declared.by_id.FirstById.{FirstById}
use Rattle.ix_rec.specs.declared.device.DeviceRec.{DeviceRec}
use Rattle.ix_rec.specs.declared.device.Tile.{Tile}
use Rattle.ix_rec.specs.declared.device.TileType.{TileType}
use Rattle.ix_device.proofs.Walks.{take_next, length_take}
use Rattle.ix_graph.specs.Nodes.{wire_count, wires_in, wires_from, tile_wires, has_wire, entries, is_alone, node_of, first_wires, nodes_from}
use Rattle.ix_graph.specs.NodeTables.{HaveNumbers, wires_before, firsts_with}
use Rattle.ix_graph.proofs.NumberLemmas.{named, not_alone, alone, next_number, all_firsts, all_below, count_nodes, kept_head, dropped_head}
use Rattle.ix_graph.proofs.TileWires.{wires_in_more, wires_before_more, around_wire, not_before}

-- how many wires a tile of this type has
pub count_of_type : (rec : DeviceRec) (t : Tile) (ty : TileType) → slice_get rec.tile_type_list t.ty ≡ Some ty → wire_count rec t ≡ length ty.wires
count_of_type rec t ty at = ap (λ o. length (unwrap_or (option_map (λ ty. ty.wires) o) [])) at

-- The wires of a tile have their numbers, up to one of them.
pub record AreNumbered (rec : DeviceRec) (tile i : ℕ) (ns : List ℕ) (fs : List (ℕ × ℕ)) : Type 0 where
  pub numbers : ns ≡ map (node_of rec) (wires_in tile i)
  pub firsts : fs ≡ firsts_with rec (wires_before rec tile ++ wires_in tile i)

pub none_numbered : (rec : DeviceRec) (tile : ℕ) (firsts : List (ℕ × ℕ)) → firsts ≡ firsts_with rec (wires_before rec tile) → AreNumbered rec tile 0 [] firsts
none_numbered rec tile firsts h = record { numbers = refl; firsts = h ∙ ap (firsts_with rec) (sym (append-nil (wires_before rec tile))) }

with_next : (rec : DeviceRec) (tile i : ℕ) → firsts_with rec (wires_before rec tile ++ wires_in tile (i + 1)) ≡ firsts_with rec (wires_before rec tile ++ wires_in tile i) ++ filter (is_alone rec) ((tile, i) ∷ [])
with_next rec tile i =
    ap (firsts_with rec) (ap (λ ws. wires_before rec tile ++ ws) (wires_in_more tile i) ∙ sym (append_assoc (wires_before rec tile) (wires_in tile i) ((tile, i) ∷ [])))
    ∙ ap (λ ws. flat_map (take 1) (entries rec) ++ ws) (filter-append (is_alone rec) (wires_before rec tile ++ wires_in tile i) ((tile, i) ∷ []))
    ∙ sym (append_assoc (flat_map (take 1) (entries rec)) (filter (is_alone rec) (wires_before rec tile ++ wires_in tile i)) (filter (is_alone rec) ((tile, i) ∷ [])))

numbers_next : (rec : DeviceRec) (tile i : ℕ) (numbers : List ℕ) (n : ℕ) → numbers ≡ map (node_of rec) (wires_in tile i) → node_of rec (tile, i) ≡ n → numbers ++ n ∷ [] ≡ map (node_of rec) (wires_in tile (i + 1))
numbers_next rec tile i numbers n h e =
    ap (λ l. l ++ n ∷ []) h ∙ ap (λ m. map (node_of rec) (wires_in tile i) ++ m ∷ []) (sym e)
    ∙ sym (ap (map (node_of rec)) (wires_in_more tile i) ∙ map_push (node_of rec) (wires_in tile i) (tile, i))

-- one more wire, which an entry names
pub one_more_named : (rec : DeviceRec) (tile i : ℕ) (numbers more : List ℕ) (firsts same : List (ℕ × ℕ)) (n : ℕ) → position (has_wire (tile, i)) (entries rec) ≡ Some n
    → more ≡ numbers ++ n ∷ [] → same ≡ firsts → AreNumbered rec tile i numbers firsts → AreNumbered rec tile (i + 1) more same
one_more_named rec tile i numbers more firsts same n at pushed is h = record {
  numbers = pushed ∙ numbers_next rec tile i numbers n h.numbers (named rec (tile, i) n at);
  firsts = is ∙ h.firsts ∙ sym (with_next rec tile i ∙ ap (λ ws. firsts_with rec (wires_before rec tile ++ wires_in tile i) ++ ws) (dropped_head (is_alone rec) (tile, i) [] (not_alone rec (tile, i) n at)) ∙ append-nil (firsts_with rec (wires_before rec tile ++ wires_in tile i)));
}

-- one more wire, which no entry names
pub one_more_alone : (rec : DeviceRec) (tile : ℕ) (t : Tile) (i : ℕ) (numbers more : List ℕ) (firsts with_it : List (ℕ × ℕ)) (n place : ℕ) → slice_get rec.tile_list tile ≡ Some t → i < wire_count rec t
    → position (has_wire (tile, i)) (entries rec) ≡ None → more ≡ numbers ++ n ∷ [] → n ≡ length firsts → with_it ≡ firsts ++ (tile, place) ∷ [] → place ≡ i
    → AreNumbered rec tile i numbers firsts → AreNumbered rec tile (i + 1) more with_it
one_more_alone rec tile t i numbers more firsts with_it n place at lt none pushed is first here h = record {
  numbers = pushed ∙ numbers_next rec tile i numbers n h.numbers (by (around_wire rec tile t i at lt) ∙ ap length (sym h.firsts) ∙ sym is);
  firsts = first ∙ ap (λ j. firsts ++ (tile, j) ∷ []) here ∙ ap (λ l. l ++ (tile, i) ∷ []) h.firsts ∙ sym (with_next rec tile i ∙ ap (λ ws. firsts_with rec (wires_before rec tile ++ wires_in tile i) ++ ws) (kept_head (is_alone rec) (tile, i) [] (alone rec (tile, i) none)));
}
  where
    by : (after : List (ℕ × ℕ)) × (tile_wires rec ≡ (wires_before rec tile ++ wires_in tile i) ++ (tile, i) ∷ after) → node_of rec (tile, i) ≡ length (firsts_with rec (wires_before rec tile ++ wires_in tile i))
    by around = next_number rec (tile, i) (wires_before rec tile ++ wires_in tile i) around.0 around.1 (not_before rec tile t i at) none

-- all wires of a tile have their numbers
pub tile_numbered : (rec : DeviceRec) (tile : ℕ) (t : Tile) (n : ℕ) (numbers : List ℕ) (firsts : List (ℕ × ℕ)) → slice_get rec.tile_list tile ≡ Some t → n ≡ wire_count rec t → AreNumbered rec tile n numbers firsts
    → (numbers ≡ map (node_of rec) (wires_in tile (wire_count rec t))) × (firsts ≡ firsts_with rec (wires_before rec (tile + 1)))
tile_numbered rec tile t n numbers firsts at e h =
    (h.numbers ∙ ap (λ m. map (node_of rec) (wires_in tile m)) e, h.firsts ∙ ap (λ m. firsts_with rec (wires_before rec tile ++ wires_in tile m)) e ∙ ap (firsts_with rec) (sym (wires_before_more rec tile t at)))

-- The nodes of tiles, with one tile more.

nodes_from-push : (rec : DeviceRec) (first : ℕ) (ts : List Tile) (t : Tile) → nodes_from rec first (ts ++ t ∷ []) ≡ nodes_from rec first ts ++ map (node_of rec) (wires_in (first + length ts) (wire_count rec t)) ∷ []
unfolding nodes_from
nodes_from-push rec first [] t = ap (λ n. map (node_of rec) (wires_in n (wire_count rec t)) ∷ []) (omega arith)
nodes_from-push rec first (u ∷ us) t =
    ap (λ l. map (node_of rec) (wires_in first (wire_count rec u)) ∷ l)
    (nodes_from-push rec (first + 1) us t ∙ ap (λ n. nodes_from rec (first + 1) us ++ map (node_of rec) (wires_in n (wire_count rec t)) ∷ []) (omega arith))

one_more_tile : (rec : DeviceRec) (i : ℕ) (t : Tile) → slice_get rec.tile_list i ≡ Some t
    → nodes_from rec 0 (take (i + 1) rec.tile_list) ≡ nodes_from rec 0 (take i rec.tile_list) ++ map (node_of rec) (wires_in i (wire_count rec t)) ∷ []
one_more_tile rec i t at =
    ap (nodes_from rec 0) (take_next rec.tile_list i t at) ∙ nodes_from-push rec 0 (take i rec.tile_list) t
    ∙ ap (λ n. nodes_from rec 0 (take i rec.tile_list) ++ map (node_of rec) (wires_in n (wire_count rec t)) ∷ []) (let len = length_take rec.tile_list i t at in omega arith)

is_there : {A : Type 0} (xs : List A) (k : ℕ) → k < length xs → slice_get xs k ≡ None → ⊥
is_there [] k lt h = omega arith
is_there (x ∷ xs) zero lt h = none-some x (sym h)
is_there (x ∷ xs) (suc k) lt h = is_there xs k (omega arith) h

-- All wires of the first k tiles have their numbers, and the tables of the others are left.
pub record TilesNumbered (rec : DeviceRec) (tables : List (FirstById ℕ)) (k : ℕ) (rest : List (FirstById ℕ)) (others : ℕ) (all : List (List ℕ)) (fs : List (ℕ × ℕ)) : Type 0 where
  pub count : others + k ≡ length tables
  pub left : rest ≡ drop k tables
  pub wires : all ≡ nodes_from rec 0 (take k rec.tile_list)
  pub firsts : fs ≡ firsts_with rec (wires_before rec k)

pub no_tile_numbered : (rec : DeviceRec) (tables : List (FirstById ℕ)) (k : ℕ) (rest : List (FirstById ℕ)) (others : ℕ) (all : List (List ℕ)) (fs : List (ℕ × ℕ)) → k ≡ 0 → rest ≡ tables → others ≡ length tables → all ≡ []
    → fs ≡ flat_map (take 1) (entries rec) → TilesNumbered rec tables k rest others all fs
unfolding nodes_from wires_from
no_tile_numbered rec tables k rest others all fs none whole len empty first = record {
  count = omega arith;
  left = whole ∙ ap (λ n. drop n tables) (sym none);
  wires = empty ∙ ap (λ n. nodes_from rec 0 (take n rec.tile_list)) (sym none);
  firsts = first ∙ sym (append-nil (flat_map (take 1) (entries rec))) ∙ ap (λ n. firsts_with rec (wires_before rec n)) (sym none);
}

head_of : {A : Type 0} (xs : List A) (k : ℕ) (y : A) (ys : List A) → y ∷ ys ≡ drop k xs → (slice_get xs k ≡ Some y) × (ys ≡ drop (k + 1) xs)
head_of [] zero y ys h = absurd (cc)
head_of [] (suc k) y ys h = absurd (cc)
head_of (x ∷ xs) zero y ys h = (ap (λ l. slice_get l 0) (sym h), ap (drop 1) h)
head_of (x ∷ xs) (suc k) y ys h = let found = head_of xs k y ys h in (found.0, found.1 ∙ ap (λ n. drop n (x ∷ xs)) (one_later k))
  where
    one_later : (n : ℕ) → suc (n + 1) ≡ suc n + 1
    one_later n = omega arith

-- the table that comes next is that of the next tile
pub next_table : (rec : DeviceRec) (tables : List (FirstById ℕ)) (k : ℕ) (rest : List (FirstById ℕ)) (others : ℕ) (all : List (List ℕ)) (fs : List (ℕ × ℕ)) (table : FirstById ℕ) (more : List (FirstById ℕ))
    → TilesNumbered rec tables k rest others all fs → rest ≡ table ∷ more → (slice_get tables k ≡ Some table) × (more ≡ drop (k + 1) tables)
next_table rec tables k rest others all fs table more h e = head_of tables k table more (sym e ∙ h.left)

-- the table of a tile has the number of the first entry of each of its wires
pub tells_of_tile : (rec : DeviceRec) (tables : List (FirstById ℕ)) (k : ℕ) (table : FirstById ℕ) (es : List (List (ℕ × ℕ))) → HaveNumbers rec tables es → slice_get tables k ≡ Some table
    → (t : Tile) (wire : ℕ) → slice_get rec.tile_list k ≡ Some t → wire < wire_count rec t → value_of table wire ≡ Some (position (has_wire (k, wire)) es)
tells_of_tile rec tables k table es have at t wire tile_at lt = sym (ap (option_and_then (λ table. value_of table wire)) at) ∙ have.each k t wire tile_at lt

pub one_more_numbered : (rec : DeviceRec) (tables : List (FirstById ℕ)) (k next : ℕ) (rest : List (FirstById ℕ)) (others left : ℕ) (all : List (List ℕ)) (fs : List (ℕ × ℕ)) (table : FirstById ℕ) (more : List (FirstById ℕ)) (ns : List ℕ) (all_more : List (List ℕ)) (gs : List (ℕ × ℕ))
    → TilesNumbered rec tables k rest others all fs → length tables ≡ length rec.tile_list → rest ≡ table ∷ more → left + 1 ≡ others → next ≡ k + 1
    → IfSome (slice_get rec.tile_list k) (λ t. ns ≡ map (node_of rec) (wires_in k (wire_count rec t))) → gs ≡ firsts_with rec (wires_before rec (k + 1)) → all_more ≡ all ++ ns ∷ []
    → TilesNumbered rec tables next more left all_more gs
one_more_numbered rec tables k next rest others left all fs table more ns all_more gs h same e fewer is numbers firsts pushed = record {
  count = let before = h.count in omega arith;
  left = (next_table rec tables k rest others all fs table more h e).1 ∙ ap (λ n. drop n tables) (sym is);
  wires = pushed ∙ by (slice_get rec.tile_list k) refl numbers ∙ ap (λ n. nodes_from rec 0 (take n rec.tile_list)) (sym is);
  firsts = firsts ∙ ap (λ n. firsts_with rec (wires_before rec n)) (sym is);
}
  where
    inside : k < length rec.tile_list
    inside = let before = h.count in omega arith

    by : (o : Option Tile) → slice_get rec.tile_list k ≡ o → IfSome o (λ t. ns ≡ map (node_of rec) (wires_in k (wire_count rec t))) → all ++ ns ∷ [] ≡ nodes_from rec 0 (take (k + 1) rec.tile_list)
    by None at n = absurd (is_there rec.tile_list k inside at)
    by (Some t) at n = ap (λ l. l ++ ns ∷ []) h.wires ∙ ap (λ m. nodes_from rec 0 (take k rec.tile_list) ++ m ∷ []) n ∙ sym (one_more_tile rec k t at)

-- all tiles have their numbers
pub all_numbered : (rec : DeviceRec) (tables : List (FirstById ℕ)) (k : ℕ) (rest : List (FirstById ℕ)) (others : ℕ) (all : List (List ℕ)) (fs : List (ℕ × ℕ)) → TilesNumbered rec tables k rest others all fs
    → length tables ≡ length rec.tile_list → others ≡ 0 → (all ≡ nodes_from rec 0 rec.tile_list) × (fs ≡ first_wires rec)
all_numbered rec tables k rest others all fs h same none = (h.wires ∙ ap (nodes_from rec 0) whole, h.firsts ∙ ap (λ ts. firsts_with rec (wires_from rec 0 ts)) whole ∙ all_firsts rec)
  where
    whole : take k rec.tile_list ≡ rec.tile_list
    whole = let before = h.count in take_all k rec.tile_list (omega arith)

-- what is known of the nodes of a device
pub all_inside : (rec : DeviceRec) (all : List (List ℕ)) (fs : List (ℕ × ℕ)) → all ≡ nodes_from rec 0 rec.tile_list → fs ≡ first_wires rec → AllByRecursion (λ ns. AllByRecursion (λ m. m < length fs) ns) all
all_inside rec all fs wires firsts =
    subst (AllByRecursion (λ ns. AllByRecursion (λ m. m < length fs) ns)) (sym wires)
    (subst (λ n. AllByRecursion (λ ns. AllByRecursion (λ m. m < n) ns) (nodes_from rec 0 rec.tile_list)) (sym (ap length firsts ∙ count_nodes rec)) (all_below rec))
