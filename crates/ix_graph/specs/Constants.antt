-- The constants that nodes carry.
use Rattle.std.specs.Prelude.{ℕ, Bool, true, false, ◌&&◌, ◌||◌, nat_eq, Option, Some, None}
use Rattle.std.specs.Prelude.{option_map, unwrap_or}
use Rattle.std.specs.List.{list_any}
use Rattle.ix_num.specs.Numbers.{WireNumber, TileWire, NodeNumber}
use Rattle.ix_num.specs.declared.resource.Constant.{Constant}
use Rattle.ix_num.specs.declared.resource.Constant.TheVariants.{Gnd, Vcc}
use Rattle.ix_rec.specs.declared.device.DeviceRec.{DeviceRec}
use Rattle.ix_rec.specs.declared.device.TileType.{TileType}
use Rattle.ix_rec.specs.declared.device.WireConstantSources.{WireConstantSources}
use Rattle.ix_rec.specs.declared.device.NodeConstantSource.{NodeConstantSource}
use Rattle.ix_device.specs.Lookups.{tile_wire_named, type_of_tile}
use Rattle.ix_device.specs.Sources.{is_constant, node_sources_of}
use Rattle.ix_graph.specs.Nodes.{is_wire, wires_of_node}

-- an entry of a tile type lists this wire with this constant
abbrev pub entry_lists : Constant → WireNumber → WireConstantSources → Bool
entry_lists c w s = is_constant c s.constant && list_any (nat_eq w) s.wires

-- one of the entries of a tile type does
abbrev pub type_lists : Constant → WireNumber → TileType → Bool
type_lists c w ty = list_any (entry_lists c w) ty.constants

-- a tile wire is listed with this constant by its tile's type
abbrev pub is_listed : DeviceRec → Constant → TileWire → Bool
is_listed rec c w = unwrap_or (option_map (type_lists c w.1) (type_of_tile rec w.0)) false

-- a tile wire that may be there is this one
abbrev pub is_this : TileWire → Option TileWire → Bool
is_this w None = false
is_this w (Some v) = is_wire w v

-- a node source names it with this constant
abbrev pub source_names : DeviceRec → Constant → TileWire → NodeConstantSource → Bool
source_names rec c w s = is_constant c s.constant && is_this w (tile_wire_named rec s.tile s.wire)

-- one of the node sources does
abbrev pub is_named : DeviceRec → Constant → TileWire → Bool
is_named rec c w = list_any (source_names rec c w) (node_sources_of rec)

-- one of a node's wires is listed or named with this constant
abbrev pub carries : DeviceRec → Constant → NodeNumber → Bool
carries rec c n = list_any (λ w. is_listed rec c w || is_named rec c w) (wires_of_node rec n)

-- What carries both constants is of neither.
abbrev pub only_constant : (gnd vcc : Bool) → Option Constant
only_constant true false = Some Gnd
only_constant false true = Some Vcc
only_constant gnd vcc = None

-- the constant of a node
abbrev pub constant_of_node : DeviceRec → NodeNumber → Option Constant
constant_of_node rec n = only_constant (carries rec Gnd n) (carries rec Vcc n)
