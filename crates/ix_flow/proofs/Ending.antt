-- From the run of the job to the status.
use Rattle.std.proofs.Common.{◌≡◌, ◌∙◌, ap, inl, inr, ◌⊎◌, ℕ, List, [], ◌∷◌, Option, Some}
use Rattle.std.proofs.Common.{option_map, Result, Ok, Err, IfOk, subst}
use Rattle.ix_shelf.specs.Shelf.{Files}
use Rattle.ix_report.specs.declared.report.Report.{Report}
use Rattle.ix_report.specs.declared.report.Report.TheVariants as a_report
use Rattle.ix_job.specs.declared.stop.Stop.{Stop}
use Rattle.ix_job.specs.declared.stop.Stop.TheVariants.{Refused}
use Rattle.ix_job.specs.declared.work.Outcome as made
use Rattle.ix_job.specs.Views.{outcome_seen}
use Rattle.ix_job.specs.Chain.{Step, comes_to, Meets}
use Rattle.ix_job.specs.Outside.{Outside}
use Rattle.ix_job.specs.Job.{Content, Outcome, content_of, AreContents, CompletesJob}
use Rattle.ix_flow.specs.declared.status.Status.{Status}
use Rattle.ix_flow.specs.Words.{Check, Flow, checking, flowing}
use Rattle.ix_flow.specs.Answer.{IsFlowOutcome}
use Rattle.ix_flow.specs.Status.{status_of}
use Rattle.ix_flow.specs.CheckAnswer.{IsCheckOutcome}
use Rattle.ix_flow.specs.Run.{job_for, job_of_check, ended, IsStatusOn, IsCheckStatusOn, IsComplete}

two_contents : (flow : Flow) (files : Files) (device design : List ℕ)
    → files flow.device ≡ Some device → files flow.design ≡ Some design
    → AreContents files (flow.device ∷ flow.design ∷ [])
    (content_of device ∷ content_of design ∷ [])
two_contents flow files device design d n =
    let first : option_map content_of (files flow.device) ≡ Some (content_of device) =
    ap (option_map content_of) d in
    let second : option_map content_of (files flow.design) ≡ Some (content_of design) =
    ap (option_map content_of) n in
    ap (λ (o : Option Content). o ∷ option_map content_of (files flow.design) ∷ []) first
    ∙ ap (λ (o : Option Content). Some (content_of device) ∷ o ∷ []) second

by_report : (device design : List ℕ) (report : Report) (status : Status) → status ≡ status_of report
    → (report ≡ a_report.OutOfMemory) ⊎ ((outcome : Outcome)
    × IsFlowOutcome (content_of device ∷ content_of design ∷ []) outcome
    × (report ≡ outcome.report))
    → IsStatusOn device design status
by_report device design report status s (inl memory) = inl (s ∙ ap status_of memory)
by_report device design report status s (inr is) = inr (is.0, is.1, s ∙ ap status_of is.2)

pub flow_complete : {E : Type 0} (flow : Flow) (before after : Outside) (r : Result Report E)
    (status : Status) → status ≡ ended r
    → CompletesJob IsFlowOutcome (job_for flow) before after r
    → IsComplete (Some (flowing flow)) before after status
flow_complete flow before after (Ok report) status s h files device design e d n failed =
    by_report device design report status s
    (h files (content_of device ∷ content_of design ∷ []) e
    (two_contents flow files device design d n) failed)
flow_complete flow before after (Err fault) status s h files device design e d n failed =
    absurd (h files (content_of device ∷ content_of design ∷ []) e
    (two_contents flow files device design d n) failed)

-- The same of `check`.
three_contents : (check : Check) (files : Files) (device design physical : List ℕ)
    → files check.device ≡ Some device → files check.design ≡ Some design
    → files check.physical ≡ Some physical
    → AreContents files (check.device ∷ check.design ∷ check.physical ∷ [])
    (content_of device ∷ content_of design ∷ content_of physical ∷ [])
three_contents check files device design physical d n p =
    let told : List ℕ → Option Content = λ name. option_map content_of (files name) in
    ap (λ (o : Option (List ℕ)). option_map content_of o ∷ told check.design ∷ told check.physical
    ∷ []) d
    ∙ ap (λ (o : Option (List ℕ)). Some (content_of device) ∷ option_map content_of o
    ∷ told check.physical ∷ []) n
    ∙ ap (λ (o : Option (List ℕ)). Some (content_of device) ∷ Some (content_of design)
    ∷ option_map content_of o ∷ []) p

check_by_report : (check : Check) (device design physical : List ℕ) (report : Report)
    (status : Status) → status ≡ status_of report
    → (report ≡ a_report.OutOfMemory) ⊎ ((outcome : Outcome)
    × IsCheckOutcome check.level (content_of device ∷ content_of design ∷ content_of physical ∷ [])
    outcome × (report ≡ outcome.report))
    → IsCheckStatusOn check.level device design physical status
check_by_report check device design physical report status s (inl memory) =
    inl (s ∙ ap status_of memory)
check_by_report check device design physical report status s (inr is) =
    inr (is.0, is.1, s ∙ ap status_of is.2)

pub check_complete : {E : Type 0} (check : Check) (before after : Outside) (r : Result Report E)
    (status : Status) → status ≡ ended r
    → CompletesJob (IsCheckOutcome check.level) (job_of_check check) before after r
    → IsComplete (Some (checking check)) before after status
check_complete check before after (Ok report) status s h files device design physical e d n p
    failed =
    check_by_report check device design physical report status s
    (h files (content_of device ∷ content_of design ∷ content_of physical ∷ []) e
    (three_contents check files device design physical d n p) failed)
check_complete check before after (Err fault) status s h files device design physical e d n p
    failed =
    absurd (h files (content_of device ∷ content_of design ∷ content_of physical ∷ []) e
    (three_contents check files device design physical d n p) failed)

-- what a job comes to that was refused
pub refused_comes : {M : Type 0} (step : Step Outcome) (stop : Stop) (r : Result made.Outcome M)
    → Meets outcome_seen step (Err stop) → IfOk r (λ o. stop ≡ Refused o.report)
    → IfOk r (λ o. o.outputs ≡ []) → IfOk r (λ o. comes_to step (outcome_seen o))
refused_comes step stop (Ok o) h is none =
    inr (subst (λ (s : Stop). Meets outcome_seen step (Err s)) is h, none)
refused_comes step stop (Err e) h is none = tt
