-- What a shelf of real files tells.
use Rattle.std.specs.Prelude.{ℕ, Option, None}
use Rattle.ix_shelf.specs.Shelf.{Files, Counts}
use Rattle.ix_shelf.specs.declared.disk_shelf.DiskShelf.{DiskShelf}

module _ {R : Type 0} where
  -- it tells no files
  abbrev pub files_of : DiskShelf R → Option Files
  files_of shelf = None

  -- how many reads failed
  abbrev pub read_faults_of : DiskShelf R → ℕ
  read_faults_of shelf = shelf.read_faults

  -- how many creates and appends failed, or took nothing of a piece that isn't empty
  abbrev pub write_faults_of : DiskShelf R → ℕ
  write_faults_of shelf = shelf.write_faults

  -- the same as counts by name: all are counted together
  abbrev pub read_counts_of : DiskShelf R → Counts
  read_counts_of shelf name = shelf.read_faults

  abbrev pub write_counts_of : DiskShelf R → Counts
  write_counts_of shelf name = shelf.write_faults
