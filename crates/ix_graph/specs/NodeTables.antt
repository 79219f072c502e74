-- What the nodes are numbered by: a table for each tile, and the first wires of the nodes so far.
use Rattle.std.specs.Prelude.{◌≡◌, ◌<◌, ℕ, List, ◌++◌, take, slice_get, Option, Some}
use Rattle.std.specs.Prelude.{option_and_then}
use Rattle.std.specs.List.{flat_map, filter, position}
use Rattle.ix_first.specs.declared.by_id.FirstById.{FirstById}
use Rattle.ix_first.specs.First.{value_of}
use Rattle.ix_rec.specs.declared.device.DeviceRec.{DeviceRec}
use Rattle.ix_rec.specs.declared.device.Tile.{Tile}
use Rattle.ix_graph.specs.Nodes.{wire_count, wires_from, has_wire, entries, is_alone}

-- the number that a tile wire has in the tables: none past their end
abbrev pub number_in : List (FirstById ℕ) → ℕ × ℕ → Option (Option ℕ)
number_in tables w = option_and_then (λ table. value_of table w.1) (slice_get tables w.0)

-- Each tile wire has the number of the first of these entries that names it.
pub record HaveNumbers (rec : DeviceRec) (tables : List (FirstById ℕ)) (es : List (List (ℕ × ℕ)))
    : Type 0 where
  pub each : (tile : ℕ) (t : Tile) (wire : ℕ) → slice_get rec.tile_list tile ≡ Some t
      → wire < wire_count rec t → number_in tables (tile, wire)
      ≡ Some (position (has_wire (tile, wire)) es)

-- the wires of the tiles before the one of this number
abbrev pub wires_before : DeviceRec → ℕ → List (ℕ × ℕ)
wires_before rec tile = wires_from rec 0 (take tile rec.tile_list)

-- the first wires of the nodes, as far as these tile wires have theirs
abbrev pub firsts_with : DeviceRec → List (ℕ × ℕ) → List (ℕ × ℕ)
firsts_with rec ws = flat_map (take 1) (entries rec) ++ filter (is_alone rec) ws
