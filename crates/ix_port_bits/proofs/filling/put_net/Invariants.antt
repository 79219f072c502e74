use Rattle.std.proofs.Common.{◌≡◌, ◌++◌, take}
use Rattle.ix_port_bits.specs.Listed.{named_rows}
use Rattle.ix_port_bits.proofs.filling.put_net.Given as goal

abbrev pub invariant-loop-i : goal.invariant-loop-i
invariant-loop-i l = l.rows.items ≡ l.initial.rows.items ++ named_rows l.own l.number (take l.i l.net.port_insts)
