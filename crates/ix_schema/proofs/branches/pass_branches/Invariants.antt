use Rattle.std.proofs.Common.{◌≡◌, ◌<◌, ◌+◌, ◌*◌, ℕ, length}
use Rattle.ix_frame.specs.Views.{elements_of}
use Rattle.ix_schema.specs.Passed.{branches_left}
use Rattle.ix_schema.proofs.Stacks.{stack_left, work}
use Rattle.ix_schema.proofs.branches.pass_branches.Given as goal

abbrev pub invariant-loop-top : goal.invariant-loop-top
invariant-loop-top l = (bound : ℕ) → (elements_of l.l).count + l.fn.budget < bound → stack_left l.stack.items l.budget ≡ branches_left bound (elements_of l.l).count (elements_of l.l) 0 l.fn.budget

abbrev pub decreases-loop-top : goal.decreases-loop-top
decreases-loop-top l = 2 * (l.budget + work l.stack.items) + length l.stack.items
