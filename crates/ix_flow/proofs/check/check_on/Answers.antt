use Rattle.std.proofs.Common.{refl}
use Rattle.ix_frame.specs.Views.{segments_of}
use Rattle.ix_rec.specs.declared.place.File.TheVariants.{Design}
use Rattle.ix_job.specs.Views.{content_seen, outcome_seen}
use Rattle.ix_job.specs.Chain.{and_then}
use Rattle.ix_job.specs.Chains.{exits_first, goes_on}
use Rattle.ix_flow.specs.Answer.{opens, design_in}
use Rattle.ix_flow.specs.CheckAnswer.{check_design}
use Rattle.ix_flow.specs.Named.{named_device, named_design}
use Rattle.ix_flow.proofs.check.check_on.Goals as goal

pub returns-in_err-frame : goal.returns-in_err-frame
returns-in_err-frame c =
    exits_first segments_of outcome_seen (opens Design (content_seen c.args.design.now))
    (λ all. and_then (design_in (named_device c.args.names.now c.args.device.now) all)
    (λ read. check_design c.args.level c.args.device.now read
    (content_seen c.args.physical.now))) c.in_err-frame.field-0.0 c.from_residual.result
    c.from_residual.ensures.1 c.in_err-frame.ensures

pub returns-in_err-rec : goal.returns-in_err-rec
returns-in_err-rec c =
    goes_on outcome_seen (opens Design (content_seen c.args.design.now))
    (λ all. and_then (design_in (named_device c.args.names.now c.args.device.now) all)
    (λ read. check_design c.args.level c.args.device.now read (content_seen c.args.physical.now)))
    (segments_of c.in_ok-frame.frame) _ c.in_ok-frame.ensures
    (exits_first (named_design c.read_design.new.names) outcome_seen
    (design_in (named_device c.args.names.now c.args.device.now)
    (segments_of c.in_ok-frame.frame))
    (λ read. check_design c.args.level c.args.device.now read (content_seen c.args.physical.now))
    c.in_err-rec.field-0.0 c.from_residual-in_err-rec.result
    c.from_residual-in_err-rec.ensures.1
    (c.in_err-rec.ensures.read (named_device c.args.names.now c.args.device.now) refl))

pub check_design-requires-clause-design : goal.check_design-requires-clause-design
check_design-requires-clause-design c =
    (c.in_ok-rec.ensures.read (named_device c.args.names.now c.args.device.now) refl).named

pub check_design-requires-clause-device : goal.check_design-requires-clause-device
check_design-requires-clause-device c = c.devices_stay_named.ensures c.args.names.now
    c.read_design.new.names c.args.device.now c.in_ok-rec.ensures.keeps c.requires.named

pub returns : goal.returns
returns c =
    goes_on outcome_seen (opens Design (content_seen c.args.design.now))
    (λ all. and_then (design_in (named_device c.args.names.now c.args.device.now) all)
    (λ read. check_design c.args.level c.args.device.now read (content_seen c.args.physical.now)))
    (segments_of c.in_ok-frame.frame) _ c.in_ok-frame.ensures
    (goes_on outcome_seen (design_in (named_device c.args.names.now c.args.device.now)
    (segments_of c.in_ok-frame.frame))
    (λ read. check_design c.args.level c.args.device.now read (content_seen c.args.physical.now))
    (named_design c.read_design.new.names c.in_ok-rec.rec) c.check_design.result
    (c.in_ok-rec.ensures.read (named_device c.args.names.now c.args.device.now) refl)
    c.check_design.ensures)
