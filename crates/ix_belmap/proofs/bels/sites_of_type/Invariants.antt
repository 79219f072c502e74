use Rattle.std.proofs.Common.{◌≡◌, ◌≤◌}
use Rattle.ix_belmap.specs.Sites.{count_below}
use Rattle.ix_belmap.specs.Sites.{is_of_type}
use Rattle.ix_belmap.proofs.bels.sites_of_type.Given as goal

abbrev pub invariant-loop-site : goal.invariant-loop-site
invariant-loop-site l = record {
  count : l.count ≡ count_below
      (is_of_type l.device l.fn.t) l.site;
  within : l.count ≤ l.site;
}
