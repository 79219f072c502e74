use Rattle.std.proofs.Common.{◌≡◌, ◌++◌, ℕ, take, map}
use Rattle.ix_rows.specs.Rows.{filler_rows, room_in, row_in}
use Rattle.ix_graph.specs.Pips.{ways_in}
use Rattle.ix_graph.specs.Edges.{told, edges_out}
use Rattle.ix_graph.proofs.edges.fill_tile.Given as goal

abbrev pub invariant-loop-i : goal.invariant-loop-i
invariant-loop-i l =
    ((tile n : ℕ) → map told (row_in l.filler n) ≡ map told (row_in l.initial.filler n) ++ edges_out l.nodes n (ways_in tile l.first (take l.i l.pips))) × ((n : ℕ) → room_in l.filler n ≡ room_in l.initial.filler n) × (filler_rows l.filler ≡ filler_rows l.initial.filler)
