use Rattle.std.proofs.Common.{◌≡◌, ◌<◌, take, true}
use Rattle.std.specs.Prelude.{nat_lt}
use Rattle.std.specs.List.{All, list_all}
use Rattle.ix_frame.specs.Views.{numbers_of}
use Rattle.ix_take.proofs.at.At.indexes.Given as goal

abbrev pub invariant-loop-i : goal.invariant-loop-i
invariant-loop-i l = record {
  found : l.found ≡ take l.i (numbers_of l.l);
  fit : list_all (λ n. nat_lt n l.many) (take l.i (numbers_of l.l)) ≡ true;
  below : All (λ n. n < l.many) l.found;
}
