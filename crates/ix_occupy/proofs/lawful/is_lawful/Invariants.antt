use Rattle.std.proofs.Common.{take, ℕ, ◌<◌, get_or}
use Rattle.ix_occupy.specs.declared.steps.Step.TheVariants.{End}
use Rattle.ix_occupy.specs.Steps.{MayFollow}
use Rattle.ix_occupy.proofs.lawful.is_lawful.Given as goal

abbrev pub invariant-loop-i : goal.invariant-loop-i
invariant-loop-i l = (k : ℕ) → k < l.i → MayFollow (take k l.steps) (get_or l.steps k End)
