use Rattle.std.proofs.Common.{◌≤◌}
use Rattle.ix_twice.proofs.Listing.{AreListed}
use Rattle.ix_twice.proofs.entries.entries_listed.Given as goal

abbrev pub invariant-loop-place : goal.invariant-loop-place
invariant-loop-place l = record {
  from : l.start ≤ l.place;
  listed : AreListed l.rows.rows l.written l.start l.place l.entries.items;
}
