use Rattle.ix_lut.specs.Shapes.{held_by, lut_on}
use Rattle.ix_fill_tables.specs.Bits.{AreForcedBelow}
use Rattle.ix_fill_tables.proofs.forcing.forced_bits.Given as goal

abbrev pub invariant-loop-values : goal.invariant-loop-values
invariant-loop-values l = AreForcedBelow (lut_on l.bel l.used) l.table (held_by l.ties) l.values
    l.forced
