use Rattle.std.proofs.Common.{List, ◌+◌, take, sym, subst}
use Rattle.ix_occupy.specs.Loads.{Load, IsAfter}
use Rattle.ix_occupy.proofs.Replaying.{after_none, claim_next, release_may, release_next, end_next}
use Rattle.ix_occupy.proofs.Replaying.{few_holders, some_holder}
use Rattle.ix_occupy.proofs.steps.replay.Goals as goal
use Rattle.ix_occupy.proofs.steps.replay.Goals.{in-Claim, in-Release, in-End}

pub loop-step-init : goal.loop-step-init
loop-step-init c = after_none c.args.nodes c.in_ok-occupancy.occupancy
    c.in_ok-occupancy.ensures.nodes c.in_ok-occupancy.ensures.unheld
    c.in_ok-occupancy.ensures.unshared

pub claim-requires-clause-room : goal.claim-requires-clause-room
claim-requires-clause-room c =
    few_holders c.args.steps.now c.loop-step.step-index c.args.nodes c.in-Claim.node
    c.loop-step.occupancy c.loop-step-test.true c.requires.few c.loop-step.invariant

pub release-requires-clause-held : goal.release-requires-clause-held
release-requires-clause-held c =
    some_holder c.args.steps.now c.loop-step.step-index c.args.nodes c.in-Release.field-0
    c.in-Release.node c.loop-step.occupancy c.loop-step.invariant
    (release_may c.args.steps.now c.loop-step.step-index c.in-Release.field-0 c.in-Release.node
    c.step-item.result c.loop-step-test.true c.step-item.is c.in-Release.is c.requires.lawful)

pub loop-step-preserved : goal.loop-step-preserved
loop-step-preserved c =
    elim c.match-step.branch [
      | in-Claim w ↦
          subst (λ (loads : List Load). IsAfter (take (c.loop-step.step-index + 1) c.args.steps.now)
          c.args.nodes loads) (sym w.occupancy-is)
          (claim_next c.args.steps.now c.loop-step.step-index c.args.nodes w.in-Claim.field-0
          w.in-Claim.node c.step-item.result c.loop-step.occupancy w.claim.new.self
          c.loop-step-test.true c.step-item.is w.in-Claim.is c.loop-step.invariant w.claim.ensures)
      | in-Release w ↦
          subst (λ (loads : List Load). IsAfter (take (c.loop-step.step-index + 1) c.args.steps.now)
          c.args.nodes loads) (sym w.occupancy-is)
          (release_next c.args.steps.now c.loop-step.step-index c.args.nodes w.in-Release.field-0
          w.in-Release.node c.step-item.result c.loop-step.occupancy w.release.new.self
          c.loop-step-test.true c.step-item.is w.in-Release.is c.requires.lawful
          c.loop-step.invariant w.release.ensures)
      | in-End w ↦
          subst (λ (loads : List Load). IsAfter (take (c.loop-step.step-index + 1) c.args.steps.now)
          c.args.nodes loads) (sym w.occupancy-is)
          (end_next c.args.steps.now c.loop-step.step-index c.args.nodes c.step-item.result
          c.loop-step.occupancy w.end_round.new.self
          c.loop-step-test.true c.step-item.is w.in-End.is c.loop-step.invariant
          w.end_round.ensures)
    ]
