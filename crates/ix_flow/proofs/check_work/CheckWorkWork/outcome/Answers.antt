use Rattle.std.proofs.Common.{List, ap, sym, subst, map, inl, IfOk}
use Rattle.ix_job.specs.Job.{Content}
use Rattle.ix_job.specs.Views.{content_seen, outcome_seen}
use Rattle.ix_flow.proofs.Checking.{answer_none, refusal_none, three_items}
use Rattle.ix_flow.proofs.Ending.{refused_comes}
use Rattle.ix_flow.specs.CheckAnswer.{check_answer, IsCheckOutcome}
use Rattle.ix_flow.proofs.check_work.CheckWorkWork.outcome.Goals as goal

pub returns-in-Ok-clause-outcome : goal.returns-in-Ok-clause-outcome
returns-in-Ok-clause-outcome c =
    let three = ap (map content_seen) (three_items c.args.inputs.now c.at.result.now
    c.at-2.result.now c.at-3.result.now c.requires c.at.ensures c.at-2.ensures c.at-3.ensures) in
    subst (λ (xs : List Content). IsCheckOutcome c.args.self.now.level xs
    (outcome_seen c.in-Ok.outcome)) (sym three) (inl c.in-Ok.ensures)

pub returns-in-Err-clause-outcome : goal.returns-in-Err-clause-outcome
returns-in-Err-clause-outcome c =
    let three = ap (map content_seen) (three_items c.args.inputs.now c.at.result.now
    c.at-2.result.now c.at-3.result.now c.requires c.at.ensures c.at-2.ensures c.at-3.ensures) in
    subst (λ (xs : List Content). IfOk c.refused.result
    (λ o. IsCheckOutcome c.args.self.now.level xs (outcome_seen o))) (sym three)
    (refused_comes (check_answer c.args.self.now.level (content_seen c.at.result.now)
    (content_seen c.at-2.result.now) (content_seen c.at-3.result.now)) c.in-Err.stop
    c.refused.result c.in-Err.ensures c.refused.ensures.refused c.refused.ensures.nothing)

pub returns-in-Ok-clause-outputs : goal.returns-in-Ok-clause-outputs
returns-in-Ok-clause-outputs c = answer_none c.args.self.now.level (content_seen c.at.result.now)
    (content_seen c.at-2.result.now) (content_seen c.at-3.result.now)
    (outcome_seen c.in-Ok.outcome) c.in-Ok.ensures

pub returns-in-Err-clause-outputs : goal.returns-in-Err-clause-outputs
returns-in-Err-clause-outputs c = refusal_none c.refused.result c.refused.ensures.nothing
