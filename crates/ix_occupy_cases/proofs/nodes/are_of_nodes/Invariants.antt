use Rattle.std.proofs.Common.{take}
use Rattle.std.specs.List.{All}
use Rattle.ix_occupy.specs.Steps.{IsOfNodes}
use Rattle.ix_occupy_cases.proofs.nodes.are_of_nodes.Given as goal

abbrev pub invariant-loop-step : goal.invariant-loop-step
invariant-loop-step l = All (λ step. IsOfNodes l.nodes step) (take l.step-index l.steps)
