use Rattle.std.proofs.Common.{◌≡◌, ℕ, ◌<◌, ◌≤◌, false, slice_index_or}
use Rattle.ix_lut.proofs.forcing.next_tieable.Given as goal

abbrev pub invariant-loop-line : goal.invariant-loop-line
invariant-loop-line l = (k : ℕ) → l.from ≤ k → k < l.line → slice_index_or l.tieable k false ≡ false
