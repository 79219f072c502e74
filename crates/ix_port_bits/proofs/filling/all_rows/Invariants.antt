use Rattle.ix_port_bits.specs.Filled.{AreFilled}
use Rattle.ix_port_bits.proofs.filling.all_rows.Given as goal

abbrev pub invariant-loop-declaration : goal.invariant-loop-declaration
invariant-loop-declaration l = AreFilled l.own l.rec l.met l.declaration-index l.rows.items l.starts.items l.ends.items
