use Rattle.std.proofs.Common.{◌≡◌}
use Rattle.ix_least_cases.proofs.main.Given as goal

abbrev pub invariant-loop-source : goal.invariant-loop-source
invariant-loop-source l = l.search ≡ l.grid.points
