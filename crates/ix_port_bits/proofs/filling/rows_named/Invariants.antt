use Rattle.std.proofs.Common.{◌≡◌, take}
use Rattle.ix_port_bits.specs.Listed.{net_rows}
use Rattle.ix_port_bits.proofs.filling.rows_named.Given as goal

abbrev pub invariant-loop-n : goal.invariant-loop-n
invariant-loop-n l = l.rows.items ≡ net_rows l.own 0 (take l.n l.cell.nets)
