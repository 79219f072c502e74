use Rattle.std.proofs.Common.{◌≡◌, ◌≤◌, ◌*◌}
use Rattle.ix_first_fit.specs.Spots.{sum_below, takers_at}
use Rattle.ix_first_fit.proofs.counts.count_bels.Given as goal

abbrev pub invariant-loop-site : goal.invariant-loop-site
invariant-loop-site l = record { count : l.count ≡ sum_below (λ s. takers_at l.device l.fn.ty s) l.site; few : l.count ≤ l.site * 4294967296 }
