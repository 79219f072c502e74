use Rattle.std.proofs.Common.{List, ◌≤◌, length, subst, arith}
use Rattle.std.specs.List.{All}
use Rattle.std.proofs.lemmas.List.{take_all}
use Rattle.std.proofs.lemmas.List.Elements.{All-more}
use Rattle.ix_occupy.specs.declared.steps.Step.{Step}
use Rattle.ix_occupy.specs.Steps.{IsOfNodes}
use Rattle.ix_occupy_cases.proofs.nodes.are_of_nodes.Goals as goal

pub loop-step-preserved : goal.loop-step-preserved
loop-step-preserved c =
    All-more (λ (s : Step). IsOfNodes c.args.nodes s) c.args.steps.now c.loop-step.step-index
    c.step-item.result c.loop-step-test.true c.loop-step.invariant
    (subst (λ (s : Step). IsOfNodes c.args.nodes s) c.step-item.is
    (c.is_of_nodes.ensures c.if-not-is_of_nodes.false))

pub returns : goal.returns
returns c = λ _.
    let end : length c.args.steps.now ≤ c.loop-step.step-index = omega arith in
    subst (λ (ss : List Step). All (λ (s : Step). IsOfNodes c.args.nodes s) ss)
    (take_all c.loop-step.step-index c.args.steps.now end) c.loop-step.invariant
