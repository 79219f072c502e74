-- The node graph of a device: what contracts see of it.
use Rattle.std.specs.Prelude.{ℕ, List, length, map, slice_get, Bool, false, nat_eq, Option, Some}
use Rattle.std.specs.Prelude.{None, option_map, option_and_then}
use Rattle.std.specs.List.{filter, find, range_with_len}
use Rattle.ix_num.specs.Numbers.{TileNumber, WireNumber, TileWire, NodeNumber, PipNumber}
use Rattle.ix_num.specs.declared.resource.Constant.{Constant}
use Rattle.ix_rec.specs.declared.device.DeviceRec.{DeviceRec}
use Rattle.ix_graph.specs.Nodes.{nodes, first_wires, nodes_from}
use Rattle.ix_graph.specs.Pips.{conventional, DirectedPip, enters_at, leaves_at, ways_from}
use Rattle.ix_graph.specs.Constants.{constant_of_node}
use Rattle.ix_graph.specs.Spans.{span, greatest}

pub record Graph : Type 0 where
  -- the node of each wire of each tile
  pub wires : List (List NodeNumber)
  -- the first wire of each node: its tile, and its place in the tile's type
  pub firsts : List TileWire
  -- the directed PIPs, in the order of their numbers
  pub pips : List DirectedPip
  -- the constant of each node; none where it carries none or both
  pub constants : List (Option Constant)
  -- the greatest span of a node
  pub span_max : ℕ

unfoldable pub graph_of : DeviceRec → Graph
graph_of rec = record {
  wires = nodes_from rec 0 rec.tile_list;
  firsts = first_wires rec;
  pips = ways_from (map (λ ty. conventional ty.pips) rec.tile_type_list) 0 0
      (map (λ t. t.ty) rec.tile_list);
  constants = map (constant_of_node rec) (range_with_len 0 (length (nodes rec)));
  span_max = greatest (map (span rec) (range_with_len 0 (length (nodes rec))));
}

-- the node of a wire of a tile, where these are the nodes of the wires of all tiles
abbrev pub node_at : List (List NodeNumber) → TileNumber → WireNumber → Option NodeNumber
node_at wires tile wire = option_and_then (λ ws. slice_get ws wire) (slice_get wires tile)

-- the node from which a directed PIP goes
abbrev pub from_node : List (List NodeNumber) → DirectedPip → Option NodeNumber
from_node wires e = node_at wires e.tile (enters_at e)

-- and the one to which it goes
abbrev pub to_node : List (List NodeNumber) → DirectedPip → Option NodeNumber
to_node wires e = node_at wires e.tile (leaves_at e)

-- a number is this one
abbrev pub is_node : NodeNumber → Option NodeNumber → Bool
is_node n None = false
is_node n (Some m) = nat_eq n m

-- a directed PIP goes out of this node
abbrev pub goes_from : List (List NodeNumber) → NodeNumber → DirectedPip → Bool
goes_from wires n e = is_node n (from_node wires e)

-- a directed PIP as an edge: its number, and the node to which it goes
abbrev pub edge : List (List NodeNumber) → DirectedPip → Option (PipNumber × NodeNumber)
edge wires e = option_map (λ n. (e.number, n)) (to_node wires e)

-- both ends of a directed PIP
abbrev pub ends_at : List (List NodeNumber) → DirectedPip → Option (NodeNumber × NodeNumber)
ends_at wires e = option_and_then (λ n. option_map (λ m. (n, m)) (to_node wires e))
    (from_node wires e)

-- the directed PIPs out of a node, in the order of their numbers
abbrev pub out_of : Graph → NodeNumber → List DirectedPip
out_of g n = filter (goes_from g.wires n) g.pips

-- the directed PIP of this number
abbrev pub pip_at : Graph → PipNumber → Option DirectedPip
pip_at g number = find (λ e. nat_eq e.number number) g.pips

-- a directed PIP by its place: its tile, its place in the list of the tile's type, and the way it
-- goes
abbrev pub place_of_pip : DirectedPip → TileNumber × ℕ × Bool
place_of_pip e = (e.tile, e.pip.place, e.forward)
