use Rattle.std.proofs.Common.{◌≡◌, take}
use Rattle.ix_lut.specs.Tables.{spelled}
use Rattle.ix_lut.proofs.table.spelled_at.Given as goal

abbrev pub invariant-loop-i : goal.invariant-loop-i
invariant-loop-i l = l.n ≡ spelled (take l.i l.places) l.v
