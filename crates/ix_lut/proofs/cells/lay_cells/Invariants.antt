use Rattle.std.proofs.Common.{◌≡◌, length}
use Rattle.ix_lut.specs.Laid.{AreLaid}
use Rattle.ix_lut.proofs.cells.lay_cells.Given as goal

abbrev pub invariant-loop-u : goal.invariant-loop-u
invariant-loop-u l = record {
  choice_long : length l.choice ≡ 8;
  luts_long : length l.luts ≡ 8;
  laid : AreLaid l.shape l.uses l.items l.lines l.u l.choice l.luts;
}
