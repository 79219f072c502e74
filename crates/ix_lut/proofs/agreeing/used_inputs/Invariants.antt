use Rattle.ix_lut.proofs.Masking.{HasFirst}
use Rattle.ix_lut.proofs.agreeing.used_inputs.Given as goal

abbrev pub invariant-loop-place : goal.invariant-loop-place
invariant-loop-place l = HasFirst l.places l.place-index l.used
