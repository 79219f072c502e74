use Rattle.std.proofs.Common.{◌≡◌, min}
use Rattle.ix_counted.specs.Counts.{bits_to, most}
use Rattle.ix_counted.proofs.count.top_bits.Given as goal

abbrev pub invariant-loop-place : goal.invariant-loop-place
invariant-loop-place l = l.count ≡ min (bits_to l.rec l.top.ports l.place) most
