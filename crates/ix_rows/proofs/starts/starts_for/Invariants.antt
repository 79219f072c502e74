use Rattle.std.proofs.Common.{◌≡◌, ℕ, ◌+◌, ◌≤◌, length, take}
use Rattle.std.specs.Prelude.{slice_index}
use Rattle.std.specs.List.{sum}
use Rattle.ix_rows.proofs.starts.starts_for.Given as goal

abbrev pub invariant-loop-size : goal.invariant-loop-size
invariant-loop-size l = record {
  rows : length l.starts.items ≡ l.size-index + 1;
  last : l.start ≡ sum (take l.size-index l.sizes);
  each : (r : ℕ) → r ≤ l.size-index → slice_index l.starts.items r ≡ sum (take r l.sizes);
}
