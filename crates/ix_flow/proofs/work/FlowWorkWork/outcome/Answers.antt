use Rattle.std.proofs.Common.{List, ap, sym, subst, map, inl, IfOk}
use Rattle.ix_job.specs.Job.{Content}
use Rattle.ix_job.specs.Views.{content_seen, outcome_seen}
use Rattle.ix_job.specs.Chains.{two_items}
use Rattle.ix_flow.proofs.Ending.{refused_comes}
use Rattle.ix_flow.proofs.Outputs.{answer_one, refused_none}
use Rattle.ix_flow.specs.Answer.{answer, IsFlowOutcome}
use Rattle.ix_flow.proofs.work.FlowWorkWork.outcome.Goals as goal

pub returns-in-Ok-clause-outcome : goal.returns-in-Ok-clause-outcome
returns-in-Ok-clause-outcome c =
    let two = ap (map content_seen) (two_items c.args.inputs.now c.at.result.now c.at-2.result.now
    c.requires c.at.ensures c.at-2.ensures) in
    subst (λ (xs : List Content). IsFlowOutcome xs (outcome_seen c.in-Ok.outcome)) (sym two)
    (inl c.in-Ok.ensures)

pub returns-in-Err-clause-outcome : goal.returns-in-Err-clause-outcome
returns-in-Err-clause-outcome c =
    let two = ap (map content_seen) (two_items c.args.inputs.now c.at.result.now c.at-2.result.now
    c.requires c.at.ensures c.at-2.ensures) in
    subst (λ (xs : List Content). IfOk c.refused.result (λ o. IsFlowOutcome xs (outcome_seen o)))
    (sym two)
    (refused_comes (answer (content_seen c.at.result.now) (content_seen c.at-2.result.now))
    c.in-Err.stop c.refused.result c.in-Err.ensures
    c.refused.ensures.refused c.refused.ensures.nothing)

pub returns-in-Ok-clause-outputs : goal.returns-in-Ok-clause-outputs
returns-in-Ok-clause-outputs c = answer_one (content_seen c.at.result.now)
    (content_seen c.at-2.result.now) (outcome_seen c.in-Ok.outcome) c.in-Ok.ensures

pub returns-in-Err-clause-outputs : goal.returns-in-Err-clause-outputs
returns-in-Err-clause-outputs c =
    refused_none (content_seen c.at.result.now)
    (content_seen c.at-2.result.now) c.in-Err.stop c.refused.result c.in-Err.ensures
    c.refused.ensures.refused c.refused.ensures.nothing
