use Rattle.std.proofs.Common.{take}
use Rattle.ix_occupy.specs.Loads.{IsAfter}
use Rattle.ix_occupy.proofs.steps.replay.Given as goal

abbrev pub invariant-loop-step : goal.invariant-loop-step
invariant-loop-step l = IsAfter (take l.step-index l.steps) l.nodes l.occupancy
