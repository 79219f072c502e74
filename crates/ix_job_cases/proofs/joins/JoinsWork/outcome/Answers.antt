use Rattle.std.proofs.Common.{◌≡◌, refl, ℕ, Bool, true, false, length, ◌++◌, List, [], ◌∷◌, IfOk}
use Rattle.std.proofs.Common.{ap, sym, subst, map, Some, None, Result, Ok, Err}
use Rattle.std.specs.Prelude.{◌==◌, if◌then◌else◌}
use Rattle.ix_rec.specs.declared.place.Rule.TheVariants.{E2}
use Rattle.ix_rec.specs.declared.place.Place.TheVariants as places
use Rattle.ix_report.specs.declared.report.Report.TheVariants.{No, Demo}
use Rattle.ix_job.specs.declared.work.Outcome as made
use Rattle.ix_job.specs.Job.{Content, HasOutputs}
use Rattle.ix_job.specs.Views.{content_seen, outcome_seen}
use Rattle.ix_job.specs.Chains.{two_items}
use Rattle.ix_job_cases.specs.Joins.{joined, IsJoined}
use Rattle.ix_job_cases.proofs.joins.JoinsWork.outcome.Goals as goal

pub returns-clause-outcome : goal.returns-clause-outcome
returns-clause-outcome c =
    let two = ap (map content_seen) (two_items c.args.inputs.now c.at.result.now c.at-2.result.now
    c.requires c.at.ensures c.at-2.ensures) in
    subst (λ (xs : List Content). IfOk c.joined_contents.result (λ o. IsJoined xs (outcome_seen o)))
    (sym two) c.joined_contents.ensures

by_empty : (empty : Bool) (xs ys : List ℕ)
    → HasOutputs 2 (if empty then record {
      report = No E2 places.File;
      outputs =
          [];
    } else record { report = Demo 1 2 3 4; outputs = (xs ++ ys) ∷ (ys ++ xs) ∷ [] })
by_empty true xs ys = refl
by_empty false xs ys = refl

joined_outputs : (a b : Content) → HasOutputs 2 (joined a b)
joined_outputs (Some xs) (Some ys) = by_empty (length xs == 0) xs ys
joined_outputs (Some xs) None = refl
joined_outputs None b = refl

as_joined : {E : Type 0} (r : Result made.Outcome E) (a b : Content)
    → IfOk r (λ o. outcome_seen o ≡ joined a b) → IfOk r (λ o. HasOutputs 2 (outcome_seen o))
as_joined (Ok o) a b e = subst (HasOutputs 2) (sym e) (joined_outputs a b)
as_joined (Err e) a b h = tt

pub returns-clause-outputs : goal.returns-clause-outputs
returns-clause-outputs c = as_joined c.joined_contents.result (content_seen c.at.result.now)
    (content_seen c.at-2.result.now) c.joined_contents.ensures
