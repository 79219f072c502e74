use Rattle.std.proofs.Common.{◌≡◌, ℕ, ◌^◌, ◌<◌, length, slice_index}
use Rattle.ix_lut.specs.Tables.{spelled}
use Rattle.ix_lut.proofs.table.spellings.Given as goal

abbrev pub invariant-loop-j : goal.invariant-loop-j
invariant-loop-j l = record {
  long : length l.spells ≡ 64;
  spelled : (v : ℕ) → v < 2 ^ l.j → slice_index l.spells v ≡ spelled l.places v;
}
