use Rattle.std.proofs.Common.{length, ◌-◌, ◌≡◌, ◌≤◌, take, option_map}
use Rattle.ix_shelf.specs.Shelf.{NoneFalls, with_file}
use Rattle.ix_shelf.proofs.files.write_file.Given as goal

abbrev pub invariant-loop-at : goal.invariant-loop-at
invariant-loop-at g l = record {
  in_range : l.at ≤ length l.bytes;
  written : g.S.Shelf.files l.shelf ≡ option_map (with_file l.name (take l.at l.bytes)) (g.S.Shelf.files l.fn.shelf);
  read_faults : g.S.Shelf.read_faults l.shelf ≡ g.S.Shelf.read_faults l.fn.shelf;
  write_faults : NoneFalls (g.S.Shelf.write_faults l.fn.shelf) (g.S.Shelf.write_faults l.shelf);
}

abbrev pub decreases-loop-at : goal.decreases-loop-at
decreases-loop-at g l = length l.bytes - l.at
