use Rattle.std.proofs.Common.{◌≡◌, ◌<◌, ◌≤◌, ◌-◌, ℕ, Some, slice_get}
use Rattle.ix_hierarchy.specs.declared.row.Row.{Row}
use Rattle.ix_inout.proofs.inout.from_port.Given as goal

abbrev pub invariant-loop-low : goal.invariant-loop-low
invariant-loop-low l = record {
  from : l.start ≤ l.low;
  some : l.low ≤ l.high;
  to : l.high ≤ l.end;
  before : (k : ℕ) (row : Row) → l.start ≤ k → k < l.low
      → slice_get l.joined.outer.rows k ≡ Some row → row.port < l.port;
  behind : (k : ℕ) (row : Row) → l.high ≤ k → k < l.end
      → slice_get l.joined.outer.rows k ≡ Some row → l.port ≤ row.port;
}

abbrev pub decreases-loop-low : goal.decreases-loop-low
decreases-loop-low l = l.high - l.low
