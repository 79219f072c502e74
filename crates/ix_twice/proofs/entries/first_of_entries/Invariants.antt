use Rattle.std.proofs.Common.{◌<◌}
use Rattle.ix_twice.specs.Repeats.{IsLeast}
use Rattle.ix_twice.specs.Entries.{IsEntryRepeat}
use Rattle.ix_twice.proofs.entries.first_of_entries.Given as goal

abbrev pub invariant-loop-place : goal.invariant-loop-place
invariant-loop-place l = record {
  from : 0 < l.place;
  least : IsLeast (IsEntryRepeat l.entries l.place) l.found;
}
