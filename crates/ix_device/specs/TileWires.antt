-- The table of the wires of tile types. A key is a tile type's number and a wire's name.
use Rattle.std.specs.Prelude.{ℕ, Bool, ◌&&◌, List, nat_eq, slice_get, Option, None, option_and_then}
use Rattle.std.specs.Prelude.{if◌then◌else◌}
use Rattle.ix_keys.specs.declared.key.Key.{Key}
use Rattle.ix_rec.specs.declared.device.TileType.{TileType}
use Rattle.ix_device.specs.Lookups.{wire_of_type}

-- a key of this tile type
abbrev pub of_type : ℕ → Key → Bool
of_type owner q = nat_eq owner q.owner && nat_eq 0 q.part

-- what the table says of these tile types
abbrev pub wire_at : List TileType → Key → Option ℕ
wire_at types q = if nat_eq 0 q.part then option_and_then (wire_of_type q.name)
    (slice_get types q.owner) else None
