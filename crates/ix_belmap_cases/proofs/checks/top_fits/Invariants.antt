use Rattle.std.proofs.Common.{◌≡◌, ◌<◌, ℕ, Some, length, slice_get}
use Rattle.ix_belmap_cases.proofs.checks.top_fits.Given as goal

abbrev pub invariant-loop-i : goal.invariant-loop-i
invariant-loop-i l =
    (q port : ℕ) → q < l.i → slice_get l.ports q ≡ Some port → port < length l.design.port_list
