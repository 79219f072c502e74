-- The constants that a device has.
use Rattle.std.specs.Prelude.{ℕ, List, [], ◌∷◌, length, slice_get, Bool, true, false, ◌&&◌, ◌||◌}
use Rattle.std.specs.Prelude.{nat_lt, nat_eq, Option, Some, None, is_some, option_map, unwrap_or}
use Rattle.std.specs.Prelude.{option_and_then}
use Rattle.std.specs.List.{list_any}
use Rattle.ix_num.specs.declared.resource.Constant.{Constant}
use Rattle.ix_num.specs.declared.resource.Constant.TheVariants.{Gnd, Vcc}
use Rattle.ix_rec.specs.declared.device.ConstantPreference.{ConstantPreference}
use Rattle.ix_rec.specs.declared.device.ConstantPreference.TheVariants as pref
use Rattle.ix_rec.specs.declared.device.DeviceRec.{DeviceRec}
use Rattle.ix_rec.specs.declared.device.SiteType.{SiteType}
use Rattle.ix_rec.specs.declared.device.Tile.{Tile}
use Rattle.ix_rec.specs.declared.device.TileType.{TileType}
use Rattle.ix_rec.specs.declared.device.SiteConstantSource.{SiteConstantSource}
use Rattle.ix_rec.specs.declared.device.WireConstantSources.{WireConstantSources}
use Rattle.ix_rec.specs.declared.device.NodeConstantSource.{NodeConstantSource}
use Rattle.ix_device.specs.Lookups.{pin_of_bel, tile_wire_named}

abbrev pub constant_of : ConstantPreference → Option Constant
constant_of pref.NoPreference = None
constant_of pref.Gnd = Some Gnd
constant_of pref.Vcc = Some Vcc

abbrev pub is_constant : Constant → ConstantPreference → Bool
is_constant Gnd pref.Gnd = true
is_constant Vcc pref.Vcc = true
is_constant c p = false

-- an entry names this pin of the site type
abbrev pub names_pin : SiteType → ℕ → SiteConstantSource → Bool
names_pin t pin e = nat_eq e.site_type t.name
    && unwrap_or (option_map (nat_eq pin) (pin_of_bel e.bel e.bel_pin t)) false

abbrev pub if_named : Bool → Option Constant → Option Constant → Option Constant
if_named true (Some c) later = Some c
if_named true None later = later
if_named false found later = later

-- the constant of the pin's first entry that has one
abbrev pub first_constant : SiteType → ℕ → List SiteConstantSource → Option Constant
first_constant t pin [] = None
first_constant t pin (e ∷ es) = if_named (names_pin t pin e) (constant_of e.constant)
    (first_constant t pin es)

-- the BEL pin of this number can drive this constant
abbrev pub site_source_in : DeviceRec → ℕ → SiteType → Option Constant
site_source_in rec pin t = option_and_then (λ c. first_constant t pin c.site_sources) rec.constants

-- an entry of a tile type lists a wire with this constant
abbrev pub lists_here : Constant → WireConstantSources → Bool
lists_here c s = is_constant c s.constant && nat_lt 0 (length s.wires)

abbrev pub lists_constant : Constant → TileType → Bool
lists_constant c ty = list_any (lists_here c) ty.constants

-- a tile has a type that lists a wire with this constant
abbrev pub tile_lists_constant : DeviceRec → Constant → Tile → Bool
tile_lists_constant rec c t = unwrap_or (option_map (lists_constant c)
    (slice_get rec.tile_type_list t.ty)) false

-- a node source is a tile wire with this constant
abbrev pub is_source : DeviceRec → Constant → NodeConstantSource → Bool
is_source rec c s = is_constant c s.constant && is_some (tile_wire_named rec s.tile s.wire)

abbrev pub node_sources_of : DeviceRec → List NodeConstantSource
node_sources_of rec = unwrap_or (option_map (λ c. c.node_sources) rec.constants) []

-- one of the device's tile wires carries this constant, by its tile type or by a node source
abbrev pub has_constant : DeviceRec → Constant → Bool
has_constant rec c = list_any (tile_lists_constant rec c) rec.tile_list
    || list_any (is_source rec c) (node_sources_of rec)
