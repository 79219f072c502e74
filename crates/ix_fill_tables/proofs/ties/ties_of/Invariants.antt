use Rattle.std.proofs.Common.{◌≡◌, length}
use Rattle.ix_lut.specs.Shapes.{input_lines}
use Rattle.ix_fill_tables.specs.Ties.{AreTiedBut}
use Rattle.ix_fill_tables.proofs.ties.ties_of.Given as goal

abbrev pub invariant-loop-j : goal.invariant-loop-j
invariant-loop-j l = record {
  many : length l.ties ≡ 12;
  tied : AreTiedBut l.on.device.now l.on.phys.now.nets l.site l.ty l.bel l.lut_bel.input_pins
      (input_lines l.shape) l.used l.j l.ties;
}
