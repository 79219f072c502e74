-- Tile wires, told by tables.
use Rattle.std.specs.Prelude.{ℕ, List, [], ◌∷◌, Bool, true, false, not, slice_get, Option, Some}
use Rattle.std.specs.Prelude.{None, option_map, unwrap_or}
use Rattle.std.specs.List.{flat_map}
use Rattle.ix_message.specs.Indexes.{Step, asked}
use Rattle.ix_rec.specs.declared.device.DeviceRec.{DeviceRec}
use Rattle.ix_rec.specs.declared.device.Wire.{Wire}
use Rattle.ix_rec.specs.declared.device.Node.{Node}
use Rattle.ix_keys.specs.declared.key.Key.{Key}
use Rattle.ix_keys.specs.Keys.{key, has_key}

-- a tile wire is told by its tile's name and its own
abbrev pub wire_key : Wire → Key
wire_key w = key w.tile 0 w.wire

-- the wire at this place, if there is one
abbrev pub wire_keys : List Wire → ℕ → List Key
wire_keys wires i = unwrap_or (option_map (λ w. wire_key w ∷ []) (slice_get wires i)) []

abbrev pub node_keys : List Wire → Node → List Key
node_keys wires n = flat_map (wire_keys wires) n.wires

abbrev pub is_free_of : List Wire → List Key → ℕ → Bool
is_free_of wires taken i = unwrap_or (option_map (λ w. not (has_key taken (wire_key w)))
    (slice_get wires i)) true

-- the wire at this place is to be none of those taken
abbrev pub wire_is_free : List Wire → List Key → ℕ → List Step
wire_is_free wires taken i = asked "Node" "wires" (is_free_of wires taken i) ∷ []

-- a tile type's number is in its list, and the table has the wire under it
abbrev pub type_has_wire : DeviceRec → List Key → ℕ → ℕ → Bool
type_has_wire rec table ty wire = unwrap_or
    (option_map (λ _. has_key table (key ty 0 wire)) (slice_get rec.tile_type_list ty)) false

-- the tile at this place has a wire of this name
abbrev pub has_wire_at : DeviceRec → List Key → Option ℕ → ℕ → Bool
has_wire_at rec table None wire = false
has_wire_at rec table (Some place) wire = unwrap_or
    (option_map (λ t. type_has_wire rec table t.ty wire) (slice_get rec.tile_list place)) false
