use Rattle.std.proofs.Common.{◌≡◌, ◌≤◌, ◌+◌, ◌*◌, ℕ, take, length}
use Rattle.std.specs.List.{filter}
use Rattle.ix_rows.specs.Rows.{row_count, size_of, total_size}
use Rattle.ix_graph.specs.Pips.{ways_from}
use Rattle.ix_graph.specs.Graph.{goes_from}
use Rattle.ix_graph.specs.Tables.{pip_count}
use Rattle.ix_graph.proofs.edges.count_tiles.Given as goal

abbrev pub invariant-loop-tile : goal.invariant-loop-tile
invariant-loop-tile l =
    ((n : ℕ) → size_of l.sizes n ≡ size_of l.initial.sizes n + length (filter (goes_from l.wires n) (ways_from l.pips.types 0 0 (take l.tile l.pips.kinds))))
    × (total_size l.sizes ≤ 2 * pip_count l.pips.types (take l.tile l.pips.kinds))
    × (row_count l.sizes ≡ row_count l.initial.sizes)
