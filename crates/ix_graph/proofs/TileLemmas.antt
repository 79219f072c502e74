-- The tiles' wires and their nodes, tile by tile.
use Rattle.std.proofs.Common.{◌≡◌, ◌<◌, refl, ap, sym, subst, ◌∙◌, ℕ, zero, suc, ◌+◌, Bool, true, false, cond, ◌||◌, nat_eq, nat_lt, List, [], ◌∷◌, ◌++◌, map, length, slice_get, position, Option, Some, None, option_map, option_and_then, unwrap_or, arith}
use Rattle.std.specs.List.{AllByRecursion, list_any, position_or_len}
use Rattle.std.proofs.lemmas.Bool.{ltb-true}
use Rattle.std.proofs.lemmas.Option.{none-some, same_Some, slice_get-get_or, slice_get-map, slice_get_within}
use Rattle.std.proofs.lemmas.List.{length-map}
use Rattle.std.proofs.lemmas.List.Folds.{list_any-append}
use Rattle.std.proofs.lemmas.List.FromFn.{length-map-range_with_len, get_or-map-range_with_len}
use Rattle.ix_rec.specs.declared.device.DeviceRec.{DeviceRec}
use Rattle.ix_rec.specs.declared.device.Tile.{Tile}
use Rattle.ix_rec.specs.declared.device.TileType.{TileType}
use Rattle.ix_device.specs.Lookups.{tile_named, type_of_tile, wire_of_type, tile_wire_named}
use Rattle.ix_device.proofs.Walks.{at_place}
use Rattle.ix_rec.specs.Ranges.{SitesFit, TileTypeFits, IndexesFit}
use Rattle.ix_graph.specs.Nodes.{wire_count, wires_in, tile_wires, is_wire, node_of, nodes_from}
use Rattle.ix_graph.specs.NodeTables.{wires_before}
use Rattle.ix_graph.proofs.TileWires.{around_wire, same_wire}

-- as many lists of nodes as tiles
pub nodes_count : (rec : DeviceRec) (first : ℕ) (ts : List Tile) → length (nodes_from rec first ts) ≡ length ts
unfolding nodes_from
nodes_count rec first [] = refl
nodes_count rec first (t ∷ ts) = ap suc (nodes_count rec (first + 1) ts)

nodes_after : (rec : DeviceRec) (first : ℕ) (ts : List Tile) (i : ℕ) (t : Tile) → slice_get ts i ≡ Some t → slice_get (nodes_from rec first ts) i ≡ Some (map (node_of rec) (wires_in (first + i) (wire_count rec t)))
unfolding nodes_from
nodes_after rec first [] i t at = absurd (none-some t at)
nodes_after rec first (u ∷ us) zero t at = ap (λ u. Some (map (node_of rec) (wires_in first (wire_count rec u)))) (same_Some u t at) ∙ ap (λ k. Some (map (node_of rec) (wires_in k (wire_count rec t)))) (omega arith)
nodes_after rec first (u ∷ us) (suc i) t at = nodes_after rec (first + 1) us i t at ∙ ap (λ k. Some (map (node_of rec) (wires_in k (wire_count rec t)))) (omega arith)

-- the nodes of the wires of a tile
pub nodes_at : (rec : DeviceRec) (i : ℕ) (t : Tile) → slice_get rec.tile_list i ≡ Some t → slice_get (nodes_from rec 0 rec.tile_list) i ≡ Some (map (node_of rec) (wires_in i (wire_count rec t)))
nodes_at rec i t at = nodes_after rec 0 rec.tile_list i t at ∙ ap (λ k. Some (map (node_of rec) (wires_in k (wire_count rec t)))) (omega arith)

-- the node of a wire of a tile
pub node_in : (rec : DeviceRec) (tile count i : ℕ) → i < count → slice_get (map (node_of rec) (wires_in tile count)) i ≡ Some (node_of rec (tile, i))
node_in rec tile count i lt =
    slice_get-map (node_of rec) (wires_in tile count) i
    ∙ ap (option_map (node_of rec)) (slice_get-get_or (wires_in tile count) i (tile, i) inside ∙ ap Some (get_or-map-range_with_len (λ w. (tile, w)) 0 count i i (tile, i) lt (omega arith)))
  where
    inside : i < length (wires_in tile count)
    inside = let len : length (wires_in tile count) ≡ count = length-map-range_with_len (λ w. (tile, w)) 0 count in omega arith

-- a tile of a type has the wires of the type
pub wires_of_type : (rec : DeviceRec) (t : Tile) (ty : TileType) → slice_get rec.tile_type_list t.ty ≡ Some ty → wire_count rec t ≡ length ty.wires
wires_of_type rec t ty at = ap (λ o. length (unwrap_or (option_map (λ ty. ty.wires) o) [])) at

-- the wires of a tile are tile wires of the device
pub is_tile_wire : (rec : DeviceRec) (tile : ℕ) (t : Tile) (i : ℕ) → slice_get rec.tile_list tile ≡ Some t → i < wire_count rec t → list_any (λ w. is_wire w (tile, i)) (tile_wires rec) ≡ true
is_tile_wire rec tile t i at lt = by (around_wire rec tile t i at lt)
  where
    p : ℕ × ℕ → Bool
    p w = is_wire w (tile, i)

    or_true : (a b : Bool) → b ≡ true → (a || b) ≡ true
    or_true true b e = refl
    or_true false b e = e

    by : (after : List (ℕ × ℕ)) × (tile_wires rec ≡ (wires_before rec tile ++ wires_in tile i) ++ (tile, i) ∷ after) → list_any p (tile_wires rec) ≡ true
    by around =
        ap (list_any p) around.1 ∙ list_any-append p (wires_before rec tile ++ wires_in tile i) ((tile, i) ∷ around.0)
        ∙ or_true (list_any p (wires_before rec tile ++ wires_in tile i)) (p (tile, i) || list_any p around.0) (ap (λ b. b || list_any p around.0) (same_wire (tile, i)))

place_below : {X : Type 0} (p : X → Bool) (xs : List X) (n : ℕ) → position p xs ≡ Some n → n < length xs
place_below p xs n h = by (nat_lt (position_or_len p xs) (length xs)) refl h
  where
    by : (b : Bool) → nat_lt (position_or_len p xs) (length xs) ≡ b → cond b (Some (position_or_len p xs)) None ≡ Some n → n < length xs
    by true t e = subst (λ m. m < length xs) (same_Some (position_or_len p xs) n e) (ltb-true (position_or_len p xs) (length xs) t)
    by false t e = absurd (none-some n e)

-- a wire that has a name stands in a tile
pub named_wire : (rec : DeviceRec) (tile wire : ℕ) (v : ℕ × ℕ) → tile_wire_named rec tile wire ≡ Some v → (t : Tile) × ((slice_get rec.tile_list v.0 ≡ Some t) × (v.1 < wire_count rec t))
named_wire rec tile wire v h = in_tile (tile_named rec tile) h
  where
    Stands : ℕ × ℕ → Type 0
    Stands v = (t : Tile) × ((slice_get rec.tile_list v.0 ≡ Some t) × (v.1 < wire_count rec t))

    at : (i : ℕ) (t : Tile) (ty : TileType) → slice_get rec.tile_list i ≡ Some t → slice_get rec.tile_type_list t.ty ≡ Some ty
        → (o : Option ℕ) → wire_of_type wire ty ≡ o → option_map (λ w. (i, w)) o ≡ Some v → Stands v
    at i t ty at_tile at_type None e h = absurd (none-some v h)
    at i t ty at_tile at_type (Some w) e h = subst Stands (same_Some (i, w) v h) (t, (at_tile, subst (λ n. w < n) (sym (wires_of_type rec t ty at_type)) (place_below (nat_eq wire) ty.wires w e)))

    of_type : (i : ℕ) (t : Tile) → slice_get rec.tile_list i ≡ Some t → (o : Option TileType) → slice_get rec.tile_type_list t.ty ≡ o → option_map (λ w. (i, w)) (option_and_then (wire_of_type wire) o) ≡ Some v → Stands v
    of_type i t at_tile None e h = absurd (none-some v h)
    of_type i t at_tile (Some ty) e h = at i t ty at_tile e (wire_of_type wire ty) refl h

    of_tile : (i : ℕ) (o : Option Tile) → slice_get rec.tile_list i ≡ o → option_map (λ w. (i, w)) (option_and_then (wire_of_type wire) (option_and_then (λ t. slice_get rec.tile_type_list t.ty) o)) ≡ Some v → Stands v
    of_tile i None e h = absurd (none-some v h)
    of_tile i (Some t) e h = of_type i t e (slice_get rec.tile_type_list t.ty) refl h

    in_tile : (o : Option ℕ) → option_and_then (λ i. option_map (λ w. (i, w)) (option_and_then (wire_of_type wire) (type_of_tile rec i))) o ≡ Some v → Stands v
    in_tile None h = absurd (none-some v h)
    in_tile (Some i) h = of_tile i (slice_get rec.tile_list i) refl h

-- What is known of a tile: its nodes, its type and that type's lists.

pub tile_within : (rec : DeviceRec) (wires : List (List ℕ)) (i : ℕ) (t : Tile) → wires ≡ nodes_from rec 0 rec.tile_list → slice_get rec.tile_list i ≡ Some t → i < length wires
tile_within rec wires i t same at = let within : i < length rec.tile_list = slice_get_within rec.tile_list i t at in let count : length wires ≡ length rec.tile_list = ap length same ∙ nodes_count rec 0 rec.tile_list in omega arith

pub nodes_are : (rec : DeviceRec) (wires : List (List ℕ)) (i : ℕ) (t : Tile) (ns : List ℕ) → wires ≡ nodes_from rec 0 rec.tile_list → slice_get rec.tile_list i ≡ Some t → slice_get wires i ≡ Some ns → ns ≡ map (node_of rec) (wires_in i (wire_count rec t))
nodes_are rec wires i t ns same at is = same_Some ns (map (node_of rec) (wires_in i (wire_count rec t))) (sym is ∙ ap (λ ws. slice_get ws i) same ∙ nodes_at rec i t at)

-- as many nodes as wires of the tile
pub nodes_of_tile_count : (rec : DeviceRec) (i count : ℕ) (ns : List ℕ) → ns ≡ map (node_of rec) (wires_in i count) → length ns ≡ count
nodes_of_tile_count rec i count ns same = ap length same ∙ length-map (wires_in i count) (node_of rec) ∙ length-map-range_with_len (λ w. (i, w)) 0 count

pub type_within : (rec : DeviceRec) (i : ℕ) (t : Tile) → IndexesFit rec → slice_get rec.tile_list i ≡ Some t → t.ty < length rec.tile_type_list
type_within rec i t fits at = by (slice_get rec.tile_type_list t.ty) refl (at_place (λ t. SitesFit (slice_get rec.tile_type_list t.ty) t.sites) rec.tile_list i t fits.tiles at)
  where
    by : (o : Option TileType) → slice_get rec.tile_type_list t.ty ≡ o → SitesFit o t.sites → t.ty < length rec.tile_type_list
    by None e h = absurd h
    by (Some ty) e h = slice_get_within rec.tile_type_list t.ty ty e

pub listed_within : (rec : DeviceRec) (k : ℕ) (ty : TileType) → IndexesFit rec → slice_get rec.tile_type_list k ≡ Some ty → AllByRecursion (λ e. AllByRecursion (λ w. w < length ty.wires) e.wires) ty.constants
listed_within rec k ty fits at = (at_place (TileTypeFits (length rec.site_type_list)) rec.tile_type_list k ty fits.tile_types at).constants

-- the node of a wire of a tile
pub wire_node : (rec : DeviceRec) (wires : List (List ℕ)) (tile : ℕ) (t : Tile) (wire : ℕ) (ns : List ℕ) (node : ℕ) → wires ≡ nodes_from rec 0 rec.tile_list → slice_get rec.tile_list tile ≡ Some t → wire < wire_count rec t
    → slice_get wires tile ≡ Some ns → slice_get ns wire ≡ Some node → node ≡ node_of rec (tile, wire)
wire_node rec wires tile t wire ns node same at lt is here = same_Some node (node_of rec (tile, wire)) (sym here ∙ ap (λ l. slice_get l wire) (nodes_are rec wires tile t ns same at is) ∙ node_in rec tile (wire_count rec t) wire lt)
