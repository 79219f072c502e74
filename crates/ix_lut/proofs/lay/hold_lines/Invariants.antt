use Rattle.std.proofs.Common.{◌≡◌, ◌≤◌, length, take}
use Rattle.ix_lut.proofs.Laying.{HoldsFrom}
use Rattle.ix_lut.proofs.lay.hold_lines.Given as goal

abbrev pub invariant-loop-x : goal.invariant-loop-x
invariant-loop-x l = record {
  few : l.x ≤ length l.items;
  held_long : length l.held ≡ 12;
  tieable_long : length l.tieable ≡ 12;
  holds : HoldsFrom l.items (take (length l.items) l.lines) l.count l.x l.held l.tieable;
}

abbrev pub decreases-loop-x : goal.decreases-loop-x
decreases-loop-x l = l.x
