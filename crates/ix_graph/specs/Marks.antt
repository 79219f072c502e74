-- Which constants are marked of nodes.
use Rattle.std.specs.Prelude.{◌≡◌, ℕ, List, length, slice_get, Bool, false, ◌&&◌, ◌||◌, nat_eq}
use Rattle.std.specs.Prelude.{option_map, unwrap_or}
use Rattle.std.specs.List.{list_any}
use Rattle.ix_num.specs.declared.resource.Constant.{Constant}
use Rattle.ix_num.specs.declared.resource.Constant.TheVariants.{Gnd, Vcc}
use Rattle.ix_rec.specs.declared.device.DeviceRec.{DeviceRec}
use Rattle.ix_rec.specs.declared.device.TileType.{TileType}
use Rattle.ix_rec.specs.declared.device.WireConstantSources.{WireConstantSources}
use Rattle.ix_rec.specs.declared.device.NodeConstantSource.{NodeConstantSource}
use Rattle.ix_device.specs.Lookups.{tile_wire_named}
use Rattle.ix_device.specs.Sources.{is_constant}
use Rattle.ix_graph.specs.declared.constants.Carried.{Carried}
use Rattle.ix_graph.specs.Nodes.{node_of}
use Rattle.ix_graph.specs.Constants.{is_listed}
use Rattle.ix_graph.specs.Graph.{is_node}

-- a node's marks have this constant
abbrev pub carried : Constant → Carried → Bool
carried Gnd m = m.gnd
carried Vcc m = m.vcc

-- a node is marked with this constant; none past the end of the marks is
abbrev pub is_marked : Constant → List Carried → ℕ → Bool
is_marked c marks n = unwrap_or (option_map (carried c) (slice_get marks n)) false

-- the marks now are those before and these
pub record Adds (more : Constant → ℕ → Bool) (before now : List Carried) : Type 0 where
  pub count : length now ≡ length before
  pub marks : (c : Constant) (n : ℕ) → is_marked c now n ≡ (is_marked c before n || more c n)

-- an entry with this constant lists a wire of this node, where these are the nodes of the tile's
-- wires
abbrev pub entry_marks : Constant → List ℕ → ℕ → WireConstantSources → Bool
entry_marks c ns n s = list_any (λ w. is_constant c s.constant && is_node n (slice_get ns w))
    s.wires

-- a tile type lists a wire of this node with this constant
abbrev pub type_marks : Constant → List ℕ → ℕ → TileType → Bool
type_marks c ns n ty = list_any (entry_marks c ns n) ty.constants

-- a tile wire is of this node, and its tile's type lists it with this constant
abbrev pub listed_in : DeviceRec → Constant → ℕ → ℕ × ℕ → Bool
listed_in rec c n w = nat_eq (node_of rec w) n && is_listed rec c w

-- a node source names a wire of this node with this constant
abbrev pub source_marks : DeviceRec → Constant → ℕ → NodeConstantSource → Bool
source_marks rec c n s = is_constant c s.constant
    && is_node n (option_map (node_of rec) (tile_wire_named rec s.tile s.wire))
