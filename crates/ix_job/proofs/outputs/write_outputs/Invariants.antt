use Rattle.std.proofs.Common.{◌≡◌, map, option_map, take}
use Rattle.ix_shelf.specs.Shelf.{NoneFalls}
use Rattle.ix_job.specs.Job.{with_files}
use Rattle.ix_job.proofs.outputs.write_outputs.Given as goal

abbrev pub invariant-loop-i : goal.invariant-loop-i
invariant-loop-i g l = record {
  files : g.S.Shelf.files l.shelf ≡ option_map
      (with_files (take l.i (map (λ name. name.now) l.names)) (take l.i l.outputs))
      (g.S.Shelf.files l.initial.shelf);
  read : g.S.Shelf.read_faults l.shelf ≡ g.S.Shelf.read_faults l.initial.shelf;
  write : NoneFalls (g.S.Shelf.write_faults l.initial.shelf) (g.S.Shelf.write_faults l.shelf);
  untried : l.i ≡ 0 → g.S.Shelf.write_faults l.shelf ≡ g.S.Shelf.write_faults l.initial.shelf;
}
