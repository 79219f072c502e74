use Rattle.std.proofs.Common.{length, ◌-◌, ◌≡◌, ◌<◌, ◌≤◌, ◌+◌, ◌^◌, vec_len}
use Rattle.ix_shelf.specs.Shelf.{NoneFalls}
use Rattle.ix_shelf.proofs.Fronts.{IsFront}
use Rattle.ix_shelf.proofs.files.read_by.Given as goal

abbrev pub invariant-loop-given : goal.invariant-loop-given
invariant-loop-given g l = record {
  files : g.S.Shelf.files l.shelf ≡ g.S.Shelf.files l.fn.shelf;
  write_faults : g.S.Shelf.write_faults l.shelf ≡ g.S.Shelf.write_faults l.fn.shelf;
  read_faults : NoneFalls (g.S.Shelf.read_faults l.fn.shelf) (g.S.Shelf.read_faults l.shelf);
  room : 0 < length l.buffer;
  small : vec_len l.bytes ≤ 2 ^ 30;
  front : IsFront (g.S.Shelf.files l.fn.shelf) l.name l.bytes.items;
}

abbrev pub decreases-loop-given : goal.decreases-loop-given
decreases-loop-given g l = 2 ^ 30 + 1 - vec_len l.bytes
