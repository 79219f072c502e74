use Rattle.std.proofs.Common.{◌≡◌, ◌<◌, ℕ, length, get_or}
use Rattle.ix_belmap.specs.Sites.{count_below}
use Rattle.ix_belmap.specs.Sites.{is_of_type}
use Rattle.ix_belmap.proofs.bels.site_counts.Given as goal

abbrev pub invariant-loop-site : goal.invariant-loop-site
invariant-loop-site l = record {
  size : length l.counts.items ≡ length l.device.site_type_list;
  each
      : (t : ℕ) → t < length l.device.site_type_list
      → get_or l.counts.items t 0 ≡ count_below (is_of_type l.device t) l.site;
}
