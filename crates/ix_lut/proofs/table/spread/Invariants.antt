use Rattle.std.specs.Int.{bit_at}
use Rattle.ix_lut.specs.Tables.{spelled}
use Rattle.ix_lut.proofs.Spreading.{HasBits}
use Rattle.ix_lut.proofs.table.spread.Given as goal

abbrev pub invariant-loop-v : goal.invariant-loop-v
invariant-loop-v l = HasBits (λ v. bit_at l.bits (spelled l.places v)) l.v l.word
