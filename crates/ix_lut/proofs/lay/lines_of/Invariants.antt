use Rattle.std.proofs.Common.{◌≡◌, ℕ, ◌<◌, length, slice_index}
use Rattle.ix_lut.specs.Items.{item_at, number_in}
use Rattle.ix_lut.proofs.lay.lines_of.Given as goal

abbrev pub invariant-loop-i : goal.invariant-loop-i
invariant-loop-i l = record {
  long : length l.chosen ≡ 6;
  chosen : (i : ℕ) → i < l.i →
      slice_index l.chosen i ≡ slice_index l.lines (number_in l.items (item_at l.cell.nets i));
}
