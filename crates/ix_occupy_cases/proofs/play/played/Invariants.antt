use Rattle.std.proofs.Common.{◌≡◌, length}
use Rattle.ix_occupy_cases.proofs.play.played.Given as goal

abbrev pub invariant-loop-step : goal.invariant-loop-step
invariant-loop-step l = length l.occupancy ≡ l.nodes
