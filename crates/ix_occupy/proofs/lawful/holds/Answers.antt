use Rattle.std.proofs.Common.{List, length, ◌≤◌, subst, arith}
use Rattle.std.proofs.lemmas.List.{take_all}
use Rattle.ix_occupy.specs.declared.steps.Step.{Step}
use Rattle.ix_occupy.specs.Steps.{holders, times}
use Rattle.ix_occupy.proofs.Checking.{Tells, held_none, held_more, held_means}
use Rattle.ix_occupy.proofs.lawful.holds.Goals as goal

pub loop-step-init : goal.loop-step-init
loop-step-init c = held_none c.args.net c.args.node

pub loop-step-preserved : goal.loop-step-preserved
loop-step-preserved c =
    held_more c.args.steps.now c.loop-step.step-index c.step-item.result c.args.net c.args.node
    c.loop-step.held c.holds_after-held.result
    c.loop-step-test.true c.step-item.is c.holds_after-held.ensures c.loop-step.invariant

pub returns : goal.returns
returns c =
    let all : length c.args.steps.now ≤ c.loop-step.step-index = omega arith in
    held_means c.args.steps.now c.args.net c.args.node c.loop-step.held
    (subst (λ (ss : List Step). Tells c.loop-step.held (times c.args.net (holders ss c.args.node)))
    (take_all c.loop-step.step-index c.args.steps.now all) c.loop-step.invariant)
