use Rattle.std.proofs.Common.{◌<◌}
use Rattle.ix_twice.specs.Repeats.{IsLeast, IsRepeat}
use Rattle.ix_twice.proofs.repeats.first_on_two.Given as goal

abbrev pub invariant-loop-place : goal.invariant-loop-place
invariant-loop-place l = record {
  from : l.start < l.place;
  least : IsLeast (IsRepeat l.rows.rows l.start l.place) l.found;
}
