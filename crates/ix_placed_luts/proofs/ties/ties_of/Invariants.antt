use Rattle.std.proofs.Common.{◌≡◌, length}
use Rattle.ix_lut.specs.Shapes.{input_lines}
use Rattle.ix_placed_luts.specs.Tied.{AreTied}
use Rattle.ix_placed_luts.proofs.ties.ties_of.Given as goal

abbrev pub invariant-loop-j : goal.invariant-loop-j
invariant-loop-j l = record {
  many : length l.ties ≡ 12;
  tied : AreTied l.on.device.now l.on.phys.now.nets l.on.site l.on.ty l.bel l.lut_bel.input_pins
      (input_lines l.shape) l.j l.ties;
}
