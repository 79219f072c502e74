use Rattle.std.proofs.Common.{◌≡◌, ℕ, ◌<◌, length, slice_index_or, true, false}
use Rattle.ix_lut.proofs.lay.first_lines.Given as goal

abbrev pub invariant-loop-line : goal.invariant-loop-line
invariant-loop-line l = record {
  long : length l.lines ≡ 12;
  only : (line : ℕ) → slice_index_or l.lines line false ≡ true → line < l.line;
  every : (line : ℕ) → line < l.line → slice_index_or l.lines line false ≡ true;
}
