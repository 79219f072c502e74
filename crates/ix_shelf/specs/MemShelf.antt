-- What a shelf in memory holds.
use Rattle.std.specs.Prelude.{ℕ, List, Option}
use Rattle.ix_shelf.specs.Shelf.{Files, Counts}
use Rattle.ix_shelf.specs.MemFiles.{files_in}
use Rattle.ix_shelf.specs.declared.mem_shelf.MemShelf.{MemShelf}

-- the files by name
abbrev pub files_of : MemShelf → Files
files_of shelf = files_in shelf.files

-- how many calls of `read_at`, `create` and `append` there were
abbrev pub calls_of : MemShelf → ℕ
calls_of shelf = shelf.plan.calls

-- the numbers of the calls that are to fail
abbrev pub failing_of : MemShelf → List ℕ
failing_of shelf = shelf.plan.failing.items

-- the numbers of the calls that take nothing of what they are given
abbrev pub nothing_of : MemShelf → List ℕ
nothing_of shelf = shelf.plan.nothing.items

-- how many bytes a call takes or gives at most
abbrev pub limit_of : MemShelf → Option ℕ
limit_of shelf = shelf.plan.limit

-- how many reads failed that were to fail
abbrev pub read_faults_of : MemShelf → ℕ
read_faults_of shelf = shelf.read_faults

-- how many creates and appends failed
abbrev pub write_faults_of : MemShelf → ℕ
write_faults_of shelf = shelf.write_faults

-- how many creates and appends failed because memory ran out
abbrev pub starved_of : MemShelf → ℕ
starved_of shelf = shelf.starved

-- the same as counts by name: all are counted together
abbrev pub read_counts_of : MemShelf → Counts
read_counts_of shelf name = shelf.read_faults

abbrev pub write_counts_of : MemShelf → Counts
write_counts_of shelf name = shelf.write_faults
