use Rattle.std.proofs.Common.{◌≡◌, ◌<◌, drop}
use Rattle.ix_lut.specs.Init.{digits_behind}
use Rattle.ix_lut.proofs.init.spelled.Given as goal

abbrev pub invariant-loop-i : goal.invariant-loop-i
invariant-loop-i l = (digits_behind l.base 0 l.digits
    ≡ digits_behind l.base l.value (drop l.i l.digits)) × (l.value < l.limit)
