use Rattle.std.proofs.Common.{◌≡◌, take}
use Rattle.ix_lut.specs.Tables.{spelled}
use Rattle.ix_fill_tables.proofs.forcing.spelled.Given as goal

abbrev pub invariant-loop-i : goal.invariant-loop-i
invariant-loop-i l = l.n ≡ spelled (take l.i l.used) l.values
