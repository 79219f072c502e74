use Rattle.std.proofs.Common.{◌≡◌, ℕ, ◌+◌, ◌-◌, ◌<◌, ◌≤◌, List, length, take, drop, slice_index}
use Rattle.std.specs.Int.{bit_at}
use Rattle.ix_lut.specs.Fillings.{Fills, KnowsFailed, with_line}
use Rattle.ix_lut.proofs.assign.+fill.Given as goal

abbrev pub decreases-fill : goal.decreases-fill
decreases-fill l = length l.masks.now - l.item

abbrev pub invariant-loop-line : goal.invariant-loop-line
invariant-loop-line l = record {
  few : l.line ≤ 12;
  knows : KnowsFailed l.masks l.failed;
  kept : take l.item l.lines ≡ take l.item l.fn.lines;
  none : (line : ℕ) → line < l.line → bit_at (slice_index l.masks l.item) line ≡ 1 → bit_at l.used line ≡ 0 →
      (rest : List ℕ) → Fills (drop (l.item + 1) l.masks) (with_line l.used line) rest → ⊥;
}
