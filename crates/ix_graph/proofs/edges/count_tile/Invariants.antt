use Rattle.std.proofs.Common.{◌≡◌, ◌≤◌, ◌+◌, ◌*◌, ℕ, take}
use Rattle.ix_rows.specs.Rows.{row_count, size_of, total_size}
use Rattle.ix_graph.specs.Edges.{all_outs}
use Rattle.ix_graph.proofs.edges.count_tile.Given as goal

abbrev pub invariant-loop-i : goal.invariant-loop-i
invariant-loop-i l =
    ((n : ℕ) → size_of l.sizes n ≡ size_of l.initial.sizes n + all_outs l.nodes n (take l.i l.pips)) × (total_size l.sizes ≤ total_size l.initial.sizes + 2 * l.i) × (row_count l.sizes ≡ row_count l.initial.sizes)
