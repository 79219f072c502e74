-- The nodes of a device: classes of tile wires. A tile wire is told by its tile and its place in
-- the tile's type.
use Rattle.std.specs.Prelude.{◌<◌, ℕ, ◌+◌, List, [], ◌∷◌, ◌++◌, length, take, map, slice_get, Bool}
use Rattle.std.specs.Prelude.{not, ◌&&◌, nat_eq, nat_lt, Option, option_and_then}
use Rattle.std.specs.List.{AllByRecursion, flat_map, list_any, filter, filter_map, position_or_len}
use Rattle.std.specs.List.{range_with_len}
use Rattle.ix_num.specs.Numbers.{TileNumber, TileWire, NodeNumber}
use Rattle.ix_rec.specs.declared.device.DeviceRec.{DeviceRec}
use Rattle.ix_rec.specs.declared.device.Tile.{Tile}
use Rattle.ix_rec.specs.declared.device.Node.{Node}
use Rattle.ix_device_rules.specs.Rules.{wires_of_tile}
use Rattle.ix_device.specs.Lookups.{tile_wire_named}

-- how many wires a tile has
abbrev pub wire_count : DeviceRec → Tile → ℕ
wire_count rec t = length (wires_of_tile rec t)

-- the tile wires of a tile that has so many
abbrev pub wires_in : TileNumber → (count : ℕ) → List TileWire
wires_in tile count = map (λ w. (tile, w)) (range_with_len 0 count)

-- those of tiles, of which the first has this number
unfoldable pub wires_from : DeviceRec → TileNumber → List Tile → List TileWire
wires_from rec tile [] = []
wires_from rec tile (t ∷ ts) = wires_in tile (wire_count rec t) ++ wires_from rec (tile + 1) ts

-- all tile wires, by tile and wire
abbrev pub tile_wires : DeviceRec → List TileWire
tile_wires rec = wires_from rec 0 rec.tile_list

-- two tile wires are one
abbrev pub is_wire : TileWire → TileWire → Bool
is_wire v w = nat_eq v.0 w.0 && nat_eq v.1 w.1

-- a tile wire is one of these
abbrev pub has_wire : TileWire → List TileWire → Bool
has_wire w ws = list_any (is_wire w) ws

-- the tile wire at this place of the device's list of wires
abbrev pub wire_listed : DeviceRec → ℕ → Option TileWire
wire_listed rec i = option_and_then (λ w. tile_wire_named rec w.tile w.wire) (slice_get rec.wires i)

-- the tile wires of an entry of the device's list of nodes, in its order; in a valid device each of
-- its wires is one
abbrev pub entry_wires : DeviceRec → Node → List TileWire
entry_wires rec n = filter_map (wire_listed rec) n.wires

-- a list of tile wires isn't empty
abbrev pub has_some : List TileWire → Bool
has_some ws = nat_lt 0 (length ws)

-- the entries that have a wire; the others take no number
unfoldable pub entries : DeviceRec → List (List TileWire)
entries rec = filter has_some (map (entry_wires rec) rec.nodes)

-- no entry names this tile wire
abbrev pub is_alone : DeviceRec → TileWire → Bool
is_alone rec w = not (list_any (has_wire w) (entries rec))

-- The nodes by number, each as its wires: the entries that have a wire, then each tile wire that no
-- entry names.
unfoldable pub nodes : DeviceRec → List (List TileWire)
nodes rec = entries rec ++ map (λ w. w ∷ []) (filter (is_alone rec) (tile_wires rec))

-- the node of a tile wire: the first that has it (in a valid device no other has)
abbrev pub node_of : DeviceRec → TileWire → NodeNumber
node_of rec w = position_or_len (has_wire w) (nodes rec)

-- the first wire of each node, in the entry's own order
unfoldable pub first_wires : DeviceRec → List TileWire
first_wires rec = flat_map (take 1) (nodes rec)

-- the nodes of the wires of each of these tiles, of which the first has this number
unfoldable pub nodes_from : DeviceRec → TileNumber → List Tile → List (List NodeNumber)
nodes_from rec tile [] = []
nodes_from rec tile (t ∷ ts) = map (node_of rec) (wires_in tile (wire_count rec t))
    ∷ nodes_from rec (tile + 1) ts

-- The wires of the node of this number, each once, by tile and wire. In a valid device they are
-- those of `nodes` at it.
unfoldable pub wires_of_node : DeviceRec → NodeNumber → List TileWire
wires_of_node rec n = filter (λ w. nat_eq (node_of rec w) n) (tile_wires rec)

-- these numbers are below a count
abbrev pub AreBelow : ℕ → List ℕ → Type 0
AreBelow count ns = AllByRecursion (λ n. n < count) ns
