use Rattle.std.proofs.Common.{◌≡◌, ◌≤◌, ◌<◌, ◌^◌, ℕ}
use Rattle.ix_belmap.proofs.BelSums.{bels_of, bels_so_far}
use Rattle.ix_belmap.proofs.bels.bels_of_device.Given as goal

abbrev pub invariant-loop-place : goal.invariant-loop-place
invariant-loop-place l = record {
  count : l.count ≡ bels_so_far l.device l.fn.ty l.place;
  small :
      (t : ℕ) → t < l.place → bels_of l.device l.fn.ty t ≤ 2 ^ 32;
}
