use Rattle.std.proofs.Common.{◌≡◌, ◌<◌, ℕ, false}
use Rattle.ix_belmap.specs.Pins.{is_nowhere_at}
use Rattle.ix_belmap.proofs.pins.first_nowhere.Given as goal

abbrev pub invariant-loop-i : goal.invariant-loop-i
invariant-loop-i l = (k : ℕ) → k < l.i → is_nowhere_at l.all k ≡ false
