use Rattle.std.proofs.Common.{◌≡◌, ℕ, ◌+◌, ◌<◌, length, slice_index}
use Rattle.ix_lut.proofs.table.double.Given as goal

abbrev pub invariant-loop-v : goal.invariant-loop-v
invariant-loop-v l = record {
  long : length l.spells ≡ 64;
  kept : (k : ℕ) → k < l.half → slice_index l.spells k ≡ slice_index l.fn.spells k;
  added : (k : ℕ) → k < l.v → slice_index l.spells (l.half + k) ≡ slice_index l.fn.spells k + l.more;
}
