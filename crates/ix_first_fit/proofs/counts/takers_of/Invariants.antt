use Rattle.std.proofs.Common.{◌≡◌, ◌≤◌}
use Rattle.ix_first_fit.specs.Spots.{count_below}
use Rattle.ix_first_fit.proofs.Counting.{takes_in}
use Rattle.ix_first_fit.proofs.counts.takers_of.Given as goal

abbrev pub invariant-loop-bel : goal.invariant-loop-bel
invariant-loop-bel l = record { count : l.count ≡ count_below (λ b. takes_in l.device l.ty l.t b) l.bel; few : l.count ≤ l.bel }
