-- What a job is, and how its run may end: for any shelf, any sink and any work.
use Rattle.std.specs.Prelude.{◌≡◌, ◌⊎◌, ℕ, ◌^◌, List, [], ◌∷◌, length, map, take, nat_lt, Option}
use Rattle.std.specs.Prelude.{Some, None, option_map, slice_get, IsSome, Result, Ok, Err}
use Rattle.std.specs.Prelude.{if◌then◌else◌}
use Rattle.std.specs.List.{AllByRecursion}
use Rattle.ix_shelf.specs.Shelf.{Files, Rose, IsAbsent, LeavesPrefix, with_file}
use Rattle.ix_report.specs.declared.report.Report as reports
use Rattle.ix_report.specs.declared.report.Report.TheVariants as a_report
use Rattle.ix_job.specs.Outside.{Outside, KeepsCounts, IsTold, Telling, stands, not_put, writes}

-- the bytes of a file's name
abbrev pub Name : Type 0
Name = List ℕ

-- a job by the names of the files that it reads and of those that it writes
pub record Job : Type 0 where
  pub inputs : List Name
  pub outputs : List Name

abbrev pub job_of : (inputs outputs : List Name) → Job
job_of inputs outputs = record { inputs = inputs; outputs = outputs }

-- what a job is given of an input: its bytes, none where there are more than 2^30
abbrev pub Content : Type 0
Content = Option (List ℕ)

abbrev pub content_of : List ℕ → Content
content_of bytes = if nat_lt (2 ^ 30) (length bytes) then None else Some bytes

-- what a job comes to: its report, and the bytes of its outputs, none where nothing is written
pub record Outcome : Type 0 where
  pub report : reports.Report
  pub outputs : List (List ℕ)

-- It has so many outputs where its report is of a job that has written them; others have none.
abbrev pub HasOutputs : ℕ → Outcome → Type 0
HasOutputs count outcome =
    length outcome.outputs ≡ (if writes outcome.report then count else 0)

-- the contents of the files of these names, which are all there
abbrev pub AreContents : Files → List Name → List Content → Type 0
AreContents files names contents =
    map (λ name. option_map content_of (files name)) names ≡ map (λ content. Some content) contents

-- the files with these set, in order: each name with its bytes
abbrev pub with_files : List Name → List (List ℕ) → Files → Files
with_files (name ∷ names) (bytes ∷ outputs) files
    = with_files names outputs (with_file name bytes files)
with_files [] outputs files = files
with_files (name ∷ names) [] files = files

-- An outcome for the contents of the inputs, which are those of the files where these are told. It
-- has an output for each name, or none.
pub record HasOutcome (is_outcome : List Content → Outcome
    → Type 0) (job : Job) (told : Option Files) : Type 0 where
  pub contents : List Content
  pub outcome : Outcome
  pub count : length contents ≡ length job.inputs
  pub read : (files : Files) → told ≡ Some files → AreContents files job.inputs contents
  pub is : is_outcome contents outcome
  pub has_outputs : HasOutputs (length job.outputs) outcome

-- The job was done or refused: all its outputs were written, and no write was tried where there are
-- none.
pub record IsAnswered (is_outcome : List Content → Outcome
    → Type 0) (job : Job) (before after : Outside) (report : reports.Report) : Type 0 where
  pub has : HasOutcome is_outcome job before.files
  pub written : after.files ≡ option_map (with_files job.outputs has.outcome.outputs) before.files
  pub untried : has.outcome.outputs ≡ [] → after.write_faults ≡ before.write_faults
  pub report_is : report ≡ has.outcome.report

-- An input wasn't read, for a cause outside; those before it were there. No file was touched.
pub record IsUnread (job : Job) (before after : Outside) (report : reports.Report) : Type 0 where
  pub place : ℕ
  pub name : Name
  pub which : slice_get job.inputs place ≡ Some name
  pub there : (files : Files) → before.files ≡ Some files
      → AllByRecursion (λ other. IsSome (files other)) (take place job.inputs)
  pub cause : Rose (before.read_faults name) (after.read_faults name) ⊎ IsAbsent before.files name
  pub kept : after.files ≡ before.files
  pub untried : after.write_faults ≡ before.write_faults
  pub report_is : report ≡ a_report.ReadFault name

-- An output wasn't written, for a cause outside: those before it are whole, it holds a prefix of
-- its bytes or is as it was, and those after it weren't touched.
pub record IsUnwritten (is_outcome : List Content → Outcome
    → Type 0) (job : Job) (before after : Outside) (report : reports.Report) : Type 0 where
  pub has : HasOutcome is_outcome job before.files
  pub place : ℕ
  pub name : Name
  pub bytes : List ℕ
  pub which : slice_get job.outputs place ≡ Some name
  pub bytes_are : slice_get has.outcome.outputs place ≡ Some bytes
  pub cause : Rose (before.write_faults name) (after.write_faults name)
  pub left : LeavesPrefix name bytes
      (option_map (with_files (take place job.outputs) (take place has.outcome.outputs))
      before.files) after.files
  pub report_is : report ≡ a_report.WriteFault name

-- Memory was wanting before the first output was begun. No file was touched.
pub record IsStarved (before after : Outside) (report : reports.Report) : Type 0 where
  pub kept : after.files ≡ before.files
  pub untried : after.write_faults ≡ before.write_faults
  pub report_is : report ≡ a_report.OutOfMemory

-- how a run may end that tells this report
abbrev pub IsEnding : (List Content → Outcome → Type 0) → Job → (before after : Outside)
    → reports.Report → Type 0
IsEnding is_outcome job before after report =
    IsAnswered is_outcome job before after report ⊎ IsUnread job before after report
    ⊎ IsUnwritten is_outcome job before after report ⊎ IsStarved before after report

-- a run of a job
pub record IsJobRun (is_outcome : List Content → Outcome
    → Type 0) (job : Job) (before after : Outside) (report : reports.Report) (telling : Telling)
    : Type 0 where
  pub ending : IsEnding is_outcome job before after report
  pub told : IsTold report before.told after.told before.put_faults after.put_faults telling
  pub counts : KeepsCounts before after

-- What a run of a job answers: the report that stands, or that a done job's line wasn't wholly put.
abbrev pub RunsJob : {E : Type 0} → (List Content → Outcome → Type 0) → Job
    → (before after : Outside) → Result reports.Report E → Type 0
RunsJob is_outcome job before after (Ok report) = IsJobRun is_outcome job before after report stands
RunsJob is_outcome job before after (Err failed) = (report : reports.Report)
    × IsJobRun is_outcome job before after report not_put

-- nothing outside has failed
pub record NothingFailed (before after : Outside) : Type 0 where
  pub read : (name : Name) → ¬ Rose (before.read_faults name) (after.read_faults name)
  pub write : (name : Name) → ¬ Rose (before.write_faults name) (after.write_faults name)
  pub put : ¬ Rose before.put_faults after.put_faults

-- It is told what the contents come to, or that memory is wanting, which may be at any time.
abbrev pub IsToldOf : {E : Type 0} → (List Content → Outcome → Type 0) → List Content
    → Result reports.Report E → Type 0
IsToldOf is_outcome contents (Ok report) =
    (report ≡ a_report.OutOfMemory) ⊎ ((outcome : Outcome) × is_outcome contents outcome
    × (report ≡ outcome.report))
IsToldOf is_outcome contents (Err failed) = ⊥

-- Where the shelf tells its files and has all inputs, and nothing fails, it is told what they come
-- to.
abbrev pub CompletesJob : {E : Type 0} → (List Content → Outcome → Type 0) → Job
    → (before after : Outside)
    → Result reports.Report E → Type 0
CompletesJob is_outcome job before after result =
    (files : Files) (contents : List Content) → before.files ≡ Some files
    → AreContents files job.inputs contents
    → NothingFailed before after → IsToldOf is_outcome contents result
