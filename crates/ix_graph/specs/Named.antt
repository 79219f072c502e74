-- PIPs by the names of their wires.
use Rattle.std.specs.Prelude.{ℕ, Bool, Option, option_and_then}
use Rattle.std.specs.List.{find}
use Rattle.ix_num.specs.Numbers.{NameNumber, TileNumber}
use Rattle.ix_rec.specs.declared.device.DeviceRec.{DeviceRec}
use Rattle.ix_device.specs.Lookups.{wire_in_tile}
use Rattle.ix_graph.specs.Pips.{DirectedPip}
use Rattle.ix_graph.specs.Graph.{graph_of}
use Rattle.ix_graph.specs.Tables.{joins_at}

-- The first directed PIP of a tile between its wires of these names that goes this way. The names
-- are those of the PIP's own `wire0` and `wire1`, also where it goes backwards. None where the
-- tile's type has no such wire, or no such conventional PIP, or backwards only directional ones.
abbrev pub pip_named : DeviceRec → TileNumber → (wire0 wire1 : NameNumber) → Bool
    → Option DirectedPip
pip_named rec tile wire0 wire1 forward =
    option_and_then (λ a. option_and_then (λ b.
    find (joins_at tile a b forward) (graph_of rec).pips) (wire_in_tile rec tile wire1))
    (wire_in_tile rec tile wire0)
