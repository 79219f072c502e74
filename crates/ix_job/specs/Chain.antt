-- The answer of a command as a chain of steps, of which the first refusal counts.
use Rattle.std.specs.Prelude.{◌≡◌, ◌⊎◌, [], Result, Ok, Err}
use Rattle.ix_report.specs.declared.report.Report.{Report}
use Rattle.ix_job.specs.Job.{Outcome}
use Rattle.ix_job.specs.declared.stop.Stop.{Stop}
use Rattle.ix_job.specs.declared.stop.Stop.TheVariants.{Refused, Memory}

-- what a step may come to: a value with which the command goes on, or the report of a refusal
abbrev pub Step : Type 0 → Type 1
Step A = Result A Report → Type 0

-- a step, and then the one that its value leads to
abbrev pub and_then : {A B : Type 0} → Step A → (A → Step B) → Step B
and_then {A} step next (Ok b) = (a : A) × step (Ok a) × next a (Ok b)
and_then {A} step next (Err report) = step (Err report)
    ⊎ ((a : A) × step (Ok a) × next a (Err report))

infixl 10 ◌>>=◌
abbrev pub ◌>>=◌ : {A B : Type 0} → Step A → (A → Step B) → Step B
step >>= next = and_then step next

-- what a chain comes to as a job: after a refusal nothing is written
abbrev pub comes_to : Step Outcome → Outcome → Type 0
comes_to step outcome = step (Ok outcome) ⊎ (step (Err outcome.report) × (outcome.outputs ≡ []))

-- the code's result, by its view, is one of the step
abbrev pub Meets : {A B : Type 0} → (A → B) → Step B → Result A Stop → Type 0
Meets view step (Ok a) = step (Ok (view a))
Meets view step (Err (Refused report)) = step (Err report)
Meets view step (Err Memory) = Unit {0}
