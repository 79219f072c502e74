use Rattle.std.proofs.Common.{◌≡◌}
use Rattle.ix_least_times.proofs.timed.sum_of.Given as goal

abbrev pub invariant-loop-pair : goal.invariant-loop-pair
invariant-loop-pair g l = l.search ≡ l.initial.search
