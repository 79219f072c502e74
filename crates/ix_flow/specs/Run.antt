-- What a run of the program does to the outside, and what its status says.
use Rattle.std.specs.Prelude.{◌≡◌, ◌≤◌, ◌⊎◌, ℕ, List, [], ◌∷◌, Option, Some, None, Result, Ok, Err}
use Rattle.ix_shelf.specs.Shelf.{Files}
use Rattle.ix_shelf.specs.declared.shelf.Failed.{Failed}
use Rattle.ix_report.specs.Lines.{line_of}
use Rattle.ix_report.specs.declared.report.Report as reports
use Rattle.ix_report.specs.declared.report.Report.TheVariants as a_report
use Rattle.ix_job.specs.Outside.{Outside, PutsLine}
use Rattle.ix_job.specs.Job.{Job, job_of, Outcome, content_of, NothingFailed, RunsJob}
use Rattle.ix_job.specs.Chain.{comes_to}
use Rattle.ix_legal.specs.declared.level.Level.{Level}
use Rattle.ix_flow.specs.declared.status.Status.{Status}
use Rattle.ix_flow.specs.declared.status.Status.TheVariants as stat
use Rattle.ix_flow.specs.Words.{Asked, Check, Flow, checking, flowing}
use Rattle.ix_flow.specs.Answer.{answer, IsFlowOutcome}
use Rattle.ix_flow.specs.CheckAnswer.{check_answer, IsCheckOutcome}
use Rattle.ix_flow.specs.Status.{status_of}

-- what `flow` reads and writes
abbrev pub job_for : Flow → Job
job_for flow = job_of (flow.device ∷ flow.design ∷ []) (flow.routed ∷ [])

-- what `check` reads; it writes nothing
abbrev pub job_of_check : Check → Job
job_of_check check = job_of (check.device ∷ check.design ∷ check.physical ∷ []) []

-- the status of what the run of a job answers
abbrev pub ended : {E : Type 0} → Result reports.Report E → Status
ended (Ok report) = status_of report
ended (Err failed) = stat.PutFault

-- A run of `flow` is one of its job.
pub record IsFlowRun (flow : Flow) (before after : Outside) (status : Status) : Type 0 where
  pub answered : Result reports.Report Failed
  pub runs : RunsJob IsFlowOutcome (job_for flow) before after answered
  pub status_is : status ≡ ended answered

-- So is a run of `check`.
pub record IsCheckRun (check : Check) (before after : Outside) (status : Status) : Type 0 where
  pub answered : Result reports.Report Failed
  pub runs : RunsJob (IsCheckOutcome check.level) (job_of_check check) before after answered
  pub status_is : status ≡ ended answered

-- A run that refuses its words asks nothing of the shelf.
pub record IsRefusal (before after : Outside) (status : Status) : Type 0 where
  pub usage : status ≡ stat.Usage
  pub line : PutsLine (line_of a_report.Usage) before.told after.told before.put_faults
      after.put_faults
  pub files : after.files ≡ before.files
  pub read : after.read_faults ≡ before.read_faults
  pub write : after.write_faults ≡ before.write_faults
  pub put : before.put_faults ≤ after.put_faults

-- A run for words, by what they are read as.
abbrev pub IsRun : Option Asked → (before after : Outside) → Status → Type 0
IsRun None before after status = IsRefusal before after status
IsRun (Some (flowing flow)) before after status = IsFlowRun flow before after status
IsRun (Some (checking check)) before after status = IsCheckRun check before after status

-- The status is that of an answer to the inputs; or want of memory, which may come at any time.

abbrev pub IsStatusOf : (Outcome → Type 0) → Status → Type 0
IsStatusOf is_outcome status = (status ≡ stat.OutOfMemory)
    ⊎ ((outcome : Outcome) × is_outcome outcome × (status ≡ status_of outcome.report))

abbrev pub IsStatusOn : (device design : List ℕ) → Status → Type 0
IsStatusOn device design status =
    IsStatusOf (comes_to (answer (content_of device) (content_of design))) status

abbrev pub IsCheckStatusOn : Level → (device design physical : List ℕ) → Status → Type 0
IsCheckStatusOn level device design physical status =
    IsStatusOf (comes_to (check_answer level (content_of device) (content_of design)
    (content_of physical))) status

-- Where the words are taken, the shelf tells its files and has all inputs, and nothing fails, the
-- status is that of an answer to the inputs.
abbrev pub IsComplete : Option Asked → (before after : Outside) → Status → Type 0
IsComplete None before after status = status ≡ stat.Usage
IsComplete (Some (flowing flow)) before after status =
    (files : Files) (device design : List ℕ) → before.files ≡ Some files
    → files flow.device ≡ Some device → files flow.design ≡ Some design
    → NothingFailed before after → IsStatusOn device design status
IsComplete (Some (checking check)) before after status =
    (files : Files) (device design physical : List ℕ) → before.files ≡ Some files
    → files check.device ≡ Some device → files check.design ≡ Some design
    → files check.physical ≡ Some physical → NothingFailed before after
    → IsCheckStatusOn check.level device design physical status
