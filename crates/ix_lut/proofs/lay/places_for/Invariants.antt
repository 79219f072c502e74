use Rattle.std.proofs.Common.{◌≡◌, length, take}
use Rattle.ix_lut.specs.Shapes.{input_lines}
use Rattle.ix_lut.specs.Plans.{places_on}
use Rattle.ix_lut.proofs.lay.places_for.Given as goal

abbrev pub invariant-loop-i : goal.invariant-loop-i
invariant-loop-i l = record {
  long : length l.places ≡ 6;
  places : take l.i l.places ≡ places_on (input_lines l.bel) l.chosen l.i;
}
