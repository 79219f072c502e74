use Rattle.std.proofs.Common.{◌≡◌}
use Rattle.ix_least_cases.proofs.told.told_from.Given as goal

abbrev pub invariant-loop-target : goal.invariant-loop-target
invariant-loop-target g l = l.search ≡ l.initial.search
