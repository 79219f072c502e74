use Rattle.std.proofs.Common.{ℕ, ◌<◌}
use Rattle.ix_lut.specs.Shapes.{IsUsableBel, bel_at}
use Rattle.ix_lut_cases.proofs.checks.is_usable.Given as goal

abbrev pub invariant-loop-place : goal.invariant-loop-place
invariant-loop-place l = (p : ℕ) → p < l.place → IsUsableBel l.shape.lines (bel_at l.shape p)
