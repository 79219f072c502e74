use Rattle.ix_lut.proofs.Masking.{HasFirst}
use Rattle.ix_lut.proofs.masks.bel_mask.Given as goal

abbrev pub invariant-loop-j : goal.invariant-loop-j
invariant-loop-j l = HasFirst l.bel.lines l.j l.mask
