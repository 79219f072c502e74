use Rattle.std.proofs.Common.{take, get_or, refl, sym, subst, ◌∙◌, below_more, arith}
use Rattle.std.proofs.lemmas.Bool.{false≢true}
use Rattle.ix_occupy.specs.declared.steps.Step.{Step}
use Rattle.ix_occupy.specs.declared.steps.Step.TheVariants.{End}
use Rattle.ix_occupy.specs.Steps.{MayFollow}
use Rattle.ix_occupy.proofs.Replaying.{may_follow, step_at}
use Rattle.ix_occupy.proofs.Checking.{lawful_each}
use Rattle.ix_occupy.proofs.lawful.is_lawful.Goals as goal

pub returns-then-not-may_follow : goal.returns-then-not-may_follow
returns-then-not-may_follow c = (
  (λ h. absurd (false≢true h)),
  (λ lawful. sym c.if-not-may_follow.true ∙ c.may_follow.ensures.1
      (subst (λ (s : Step). MayFollow (take c.loop-i.i c.args.steps.now) s)
      (step_at c.args.steps.now c.loop-i.i c.index-steps-i.result c.index-steps-i.result
      c.loop-i-test.true c.index-steps-i.is refl)
      (may_follow c.args.steps.now c.loop-i.i c.loop-i-test.true lawful))),
)

pub loop-i-preserved : goal.loop-i-preserved
loop-i-preserved c =
    below_more (λ k. MayFollow (take k c.args.steps.now) (get_or c.args.steps.now k End)) c.loop-i.i
    c.loop-i.invariant
    (subst (λ (s : Step). MayFollow (take c.loop-i.i c.args.steps.now) s)
    (sym (step_at c.args.steps.now c.loop-i.i c.index-steps-i.result c.index-steps-i.result
    c.loop-i-test.true c.index-steps-i.is refl))
    (c.may_follow.ensures.0 c.if-not-may_follow.false))

pub returns : goal.returns
returns c = (
  (λ _. lawful_each c.args.steps.now (λ k inside. c.loop-i.invariant k
      (omega (arith, c.loop-i-test.false)))),
  (λ _. refl),
)
