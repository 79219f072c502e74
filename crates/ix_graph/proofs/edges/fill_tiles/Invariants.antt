use Rattle.std.proofs.Common.{◌≡◌, ℕ, take, map}
use Rattle.std.specs.List.{filter}
use Rattle.ix_rows.specs.Rows.{filler_rows, room_in, row_in}
use Rattle.ix_graph.specs.Pips.{ways_from}
use Rattle.ix_graph.specs.Graph.{goes_from, edge}
use Rattle.ix_graph.specs.Edges.{told}
use Rattle.ix_graph.proofs.edges.fill_tiles.Given as goal

abbrev pub invariant-loop-tile : goal.invariant-loop-tile
invariant-loop-tile l =
    ((n : ℕ) → map told (row_in l.filler n) ≡ map (edge l.wires) (filter (goes_from l.wires n) (ways_from l.pips.types 0 0 (take l.tile l.pips.kinds))))
    × ((n : ℕ) → room_in l.filler n ≡ room_in l.initial.filler n)
    × (filler_rows l.filler ≡ filler_rows l.initial.filler)
