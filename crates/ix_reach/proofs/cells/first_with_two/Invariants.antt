use Rattle.std.proofs.Common.{ℕ, ◌<◌}
use Rattle.ix_hierarchy.specs.Broken.{HasTwoCells}
use Rattle.ix_reach.proofs.cells.first_with_two.Given as goal

abbrev pub invariant-loop-declaration : goal.invariant-loop-declaration
invariant-loop-declaration l =
    (d : ℕ) → d < l.declaration → HasTwoCells l.rec d → ⊥
