use Rattle.std.proofs.Common.{length, refl}
use Rattle.ix_job.specs.Chain.{and_then}
use Rattle.ix_job.specs.Chains.{exits_first, goes_on}
use Rattle.ix_job.specs.Views.{content_seen, outcome_seen}
use Rattle.ix_flow.specs.Answer.{flattened, pinned}
use Rattle.ix_flow.specs.CheckAnswer.{check_flat}
use Rattle.ix_flow.specs.Named.{named_design, named_flat}
use Rattle.ix_flow.proofs.check.check_design.Goals as goal

pub returns-in_err-flat : goal.returns-in_err-flat
returns-in_err-flat c =
    exits_first (named_flat c.flat_design.new.names) outcome_seen
    (flattened c.args.device.now (named_design c.args.names.now c.args.rec.now))
    (λ f. and_then (pinned c.args.device.now (named_design c.args.names.now c.args.rec.now) f)
    (λ flat. check_flat c.args.level c.args.device.now f flat (content_seen c.args.physical.now)))
    c.in_err-flat.field-0.0 c.from_residual.result
    c.from_residual.ensures.1 c.in_err-flat.ensures.flat

pub pinned-requires-clause-design : goal.pinned-requires-clause-design
pinned-requires-clause-design c = (
  length c.args.names.now,
  c.read_netlists_fit.ensures c.args.names.now c.args.rec.now c.requires.design,
)

pub pinned-requires-clause-flat : goal.pinned-requires-clause-flat
pinned-requires-clause-flat c = (c.args.names.now, c.in_ok-flat.ensures.flat)

pub returns-in_err-flat-2 : goal.returns-in_err-flat-2
returns-in_err-flat-2 c =
    goes_on outcome_seen
    (flattened c.args.device.now (named_design c.args.names.now c.args.rec.now))
    (λ f. and_then (pinned c.args.device.now (named_design c.args.names.now c.args.rec.now) f)
    (λ flat. check_flat c.args.level c.args.device.now f flat (content_seen c.args.physical.now)))
    (named_flat c.flat_design.new.names c.in_ok-flat.flat) _ c.in_ok-flat.ensures.flat
    (exits_first (λ flat. flat) outcome_seen
    (pinned c.args.device.now (named_design c.args.names.now c.args.rec.now)
    (named_flat c.flat_design.new.names c.in_ok-flat.flat))
    (λ flat. check_flat c.args.level c.args.device.now
    (named_flat c.flat_design.new.names c.in_ok-flat.flat) flat
    (content_seen c.args.physical.now))
    c.in_err-flat-2.field-0.0 c.from_residual-in_err-flat-2.result
    c.from_residual-in_err-flat-2.ensures.1
    (c.in_err-flat-2.ensures.pinned (named_design c.args.names.now c.args.rec.now) refl))

pub check_flat-requires-clause-device : goal.check_flat-requires-clause-device
check_flat-requires-clause-device c = c.devices_stay_named.ensures c.args.names.now
    c.flat_design.new.names c.args.device.now c.in_ok-flat.ensures.keeps c.requires.device

pub returns : goal.returns
returns c =
    goes_on outcome_seen
    (flattened c.args.device.now (named_design c.args.names.now c.args.rec.now))
    (λ f. and_then (pinned c.args.device.now (named_design c.args.names.now c.args.rec.now) f)
    (λ flat. check_flat c.args.level c.args.device.now f flat (content_seen c.args.physical.now)))
    (named_flat c.flat_design.new.names c.in_ok-flat.flat) _ c.in_ok-flat.ensures.flat
    (goes_on outcome_seen
    (pinned c.args.device.now (named_design c.args.names.now c.args.rec.now)
    (named_flat c.flat_design.new.names c.in_ok-flat.flat))
    (λ flat. check_flat c.args.level c.args.device.now
    (named_flat c.flat_design.new.names c.in_ok-flat.flat) flat
    (content_seen c.args.physical.now))
    c.in_ok-flat-2.flat c.check_flat.result
    (c.in_ok-flat-2.ensures.pinned (named_design c.args.names.now c.args.rec.now) refl)
    (c.check_flat.ensures (named_flat c.flat_design.new.names c.in_ok-flat.flat) refl))
