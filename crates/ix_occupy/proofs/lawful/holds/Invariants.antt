use Rattle.std.proofs.Common.{take}
use Rattle.ix_occupy.specs.Steps.{holders, times}
use Rattle.ix_occupy.proofs.Checking.{Tells}
use Rattle.ix_occupy.proofs.lawful.holds.Given as goal

abbrev pub invariant-loop-step : goal.invariant-loop-step
invariant-loop-step l = Tells l.held (times l.net (holders (take l.step-index l.steps) l.node))
