use Rattle.std.proofs.Common.{◌-◌}
use Rattle.ix_lut.proofs.forcing.+can_complete.Given as goal

abbrev pub decreases-can_complete : goal.decreases-can_complete
decreases-can_complete l = 12 - l.from
