use Rattle.std.proofs.Common.{◌≡◌, map, take, length, Some}
use Rattle.ix_shelf.specs.Shelf.{Files, NoneFalls}
use Rattle.ix_job.specs.Job.{AreContents}
use Rattle.ix_job.specs.Views.{content_seen}
use Rattle.ix_job.proofs.inputs.read_inputs.Given as goal

abbrev pub invariant-loop-i : goal.invariant-loop-i
invariant-loop-i g l = record {
  count : length l.contents ≡ l.i;
  files : g.S.Shelf.files l.shelf ≡ g.S.Shelf.files l.initial.shelf;
  read : NoneFalls (g.S.Shelf.read_faults l.initial.shelf) (g.S.Shelf.read_faults l.shelf);
  write : g.S.Shelf.write_faults l.shelf ≡ g.S.Shelf.write_faults l.initial.shelf;
  contents : (files : Files) → g.S.Shelf.files l.initial.shelf ≡ Some files
      → AreContents files (take l.i (map (λ name. name.now) l.names)) (map content_seen l.contents);
}
