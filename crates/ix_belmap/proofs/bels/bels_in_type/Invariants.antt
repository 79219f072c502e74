use Rattle.std.proofs.Common.{◌≡◌, ◌≤◌, ◌^◌}
use Rattle.ix_belmap.specs.Sites.{count_below}
use Rattle.ix_belmap.proofs.BelSums.{takes_in}
use Rattle.ix_belmap.proofs.bels.bels_in_type.Given as goal

abbrev pub invariant-loop-place : goal.invariant-loop-place
invariant-loop-place l = record {
  count : l.count ≡ count_below
      (takes_in l.device l.ty l.t) l.place;
  within : l.count ≤ l.place;
  few : l.place ≤ 2 ^ 32;
}
