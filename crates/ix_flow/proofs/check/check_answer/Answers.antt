use Rattle.ix_frame.specs.Views.{segments_of}
use Rattle.ix_rec.specs.declared.place.File.TheVariants.{Device}
use Rattle.ix_job.specs.Views.{content_seen, outcome_seen}
use Rattle.ix_job.specs.Chain.{and_then}
use Rattle.ix_job.specs.Chains.{exits_first, goes_on}
use Rattle.ix_flow.specs.Answer.{opens, device_in}
use Rattle.ix_flow.specs.CheckAnswer.{check_on}
use Rattle.ix_flow.specs.Named.{named_device}
use Rattle.ix_flow.proofs.check.check_answer.Goals as goal

pub returns-in_err-frame : goal.returns-in_err-frame
returns-in_err-frame c =
    exits_first segments_of outcome_seen (opens Device (content_seen c.args.device.now))
    (λ all. and_then (device_in all) (λ d. check_on c.args.level d
    (content_seen c.args.design.now) (content_seen c.args.physical.now)))
    c.in_err-frame.field-0.0 c.from_residual.result
    c.from_residual.ensures.1 c.in_err-frame.ensures

pub returns-in_err-device : goal.returns-in_err-device
returns-in_err-device c =
    goes_on outcome_seen (opens Device (content_seen c.args.device.now))
    (λ all. and_then (device_in all) (λ d. check_on c.args.level d
    (content_seen c.args.design.now) (content_seen c.args.physical.now)))
    (segments_of c.in_ok-frame.frame) _ c.in_ok-frame.ensures
    (exits_first (named_device c.valid_device.new.names) outcome_seen
    (device_in (segments_of c.in_ok-frame.frame))
    (λ d. check_on c.args.level d (content_seen c.args.design.now)
    (content_seen c.args.physical.now))
    c.in_err-device.field-0.0 c.from_residual-in_err-device.result
    c.from_residual-in_err-device.ensures.1 c.in_err-device.ensures.valid)

pub returns : goal.returns
returns c =
    goes_on outcome_seen (opens Device (content_seen c.args.device.now))
    (λ all. and_then (device_in all) (λ d. check_on c.args.level d
    (content_seen c.args.design.now) (content_seen c.args.physical.now)))
    (segments_of c.in_ok-frame.frame) _ c.in_ok-frame.ensures
    (goes_on outcome_seen (device_in (segments_of c.in_ok-frame.frame))
    (λ d. check_on c.args.level d (content_seen c.args.design.now)
    (content_seen c.args.physical.now))
    (named_device c.valid_device.new.names c.in_ok-device.device) c.check_on.result
    c.in_ok-device.ensures.valid c.check_on.ensures)
