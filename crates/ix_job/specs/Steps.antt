-- What the steps of a run come to.
use Rattle.std.specs.Prelude.{◌≡◌, ◌⊎◌, ℕ, List, [], map, take, Option, Some, option_map, slice_get}
use Rattle.std.specs.Prelude.{IsSome, Result, Ok, Err}
use Rattle.std.specs.List.{AllByRecursion}
use Rattle.ix_shelf.specs.Shelf.{Files, Counts, Rose, IsAbsent, LeavesPrefix}
use Rattle.ix_job.specs.declared.work.Content.{Content}
use Rattle.ix_job.specs.declared.inputs.Unread.{Unread}
use Rattle.ix_job.specs.declared.inputs.Unread.TheVariants.{Fault, Memory}
use Rattle.ix_report.specs.declared.report.Report.{Report}
use Rattle.ix_report.specs.declared.report.Report.TheVariants as a_report
use Rattle.ix_job.specs.declared.run.Ready.{Ready}
use Rattle.ix_job.specs.Outside.{Outside, Tells}
use Rattle.ix_job.specs.Job.{Name, Content as ContentSeen, Outcome, content_of, AreContents}
use Rattle.ix_job.specs.Job.{HasOutputs, with_files}
use Rattle.ix_job.specs.Views.{content_seen}

-- this content was read of the file, where the shelf tells its files
abbrev pub IsContent : Option Files → Name → Content → Type 0
IsContent told name content = (files : Files) → told ≡ Some files
    → (bytes : List ℕ) × (files name ≡ Some bytes) × (content_seen content ≡ content_of bytes)

-- the input at this place wasn't read
pub record IsUnreadAt (told : Option Files) (before now : Counts) (names : List Name) (place : ℕ)
    : Type 0 where
  pub name : Name
  pub which : slice_get names place ≡ Some name
  pub there : (files : Files) → told ≡ Some files
      → AllByRecursion (λ other. IsSome (files other)) (take place names)
  pub cause : Rose (before name) (now name) ⊎ IsAbsent told name

-- what reading the inputs comes to
abbrev pub AreRead : Option Files → (before now : Counts) → List Name → Result (List Content) Unread
    → Type 0
AreRead told before now names (Ok contents) = (files : Files) → told ≡ Some files
    → AreContents files names (map content_seen contents)
AreRead told before now names (Err (Fault place)) = IsUnreadAt told before now names place
AreRead told before now names (Err Memory) = Unit {0}

-- the output at this place wasn't written, and those before it were
pub record IsUnwrittenAt (old new : Option Files) (before now : Counts) (names : List Name)
    (outputs : List (List ℕ)) (place : ℕ) : Type 0 where
  pub name : Name
  pub bytes : List ℕ
  pub which : slice_get names place ≡ Some name
  pub bytes_are : slice_get outputs place ≡ Some bytes
  pub cause : Rose (before name) (now name)
  pub left : LeavesPrefix name bytes (option_map
      (with_files (take place names) (take place outputs)) old) new

-- all that is to be written and told was made, for an outcome of these contents
pub record IsMadeOf (is_outcome : List ContentSeen → Outcome
    → Type 0) (contents : List ContentSeen) (count : ℕ) (outputs : List Name) (r : Ready)
    : Type 0 where
  pub outcome : Outcome
  pub is : is_outcome contents outcome
  pub has_outputs : HasOutputs count outcome
  pub outputs_are : r.outputs ≡ outcome.outputs
  pub report : r.done.report ≡ outcome.report
  pub faults : map (λ l. l.report) r.faults.items ≡ map (λ name. a_report.WriteFault name) outputs

-- one of these two reports was told
abbrev pub TellsEither : {E : Type 0} → (one other : Report) → (old new : Option (List ℕ))
    → (before now : ℕ) → Result Report E → Type 0
TellsEither one other old new before now result =
    Tells one old new before now result ⊎ Tells other old new before now result

-- all outputs were written, and it was told
pub record IsWhole (r : Ready) (names : List Name) (before after : Outside) (result_told : Type 0)
    : Type 0 where
  pub written : after.files ≡ option_map (with_files names r.outputs) before.files
  pub untried : r.outputs ≡ [] → after.write_faults ≡ before.write_faults
  pub told : result_told

-- one of the outputs wasn't written, and that was told
pub record IsCut (r : Ready) (names : List Name) (before after : Outside) (result_told : Report
    → Type 0) : Type 0 where
  pub place : ℕ
  pub cut : IsUnwrittenAt before.files after.files before.write_faults after.write_faults names
      r.outputs place
  pub told : result_told (a_report.WriteFault cut.name)

abbrev pub Finishes : {E : Type 0} → Ready → List Name → (before after : Outside) → Result Report E
    → Type 0
Finishes r names before after result =
    IsWhole r names before after (Tells r.done.report before.told after.told before.put_faults
    after.put_faults result)
    ⊎ IsCut r names before after (λ report.
    Tells report before.told after.told before.put_faults after.put_faults result)
