use Rattle.std.proofs.Common.{ℕ, ◌<◌}
use Rattle.ix_lut.specs.Shapes.{held_by}
use Rattle.ix_fill_tables.specs.Bits.{AgreesAt}
use Rattle.ix_fill_tables.proofs.forcing.agrees.Given as goal

abbrev pub invariant-loop-j : goal.invariant-loop-j
invariant-loop-j l = (i : ℕ) → i < l.j → AgreesAt l.bel.lines l.used (held_by l.ties) l.values i
