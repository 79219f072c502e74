use Rattle.ix_job.specs.Chains.{exits_first, goes_on}
use Rattle.ix_job.specs.Views.{content_seen, outcome_seen}
use Rattle.ix_flow.specs.CheckAnswer.{judged, physical_in}
use Rattle.ix_flow.specs.Named.{named_phys}
use Rattle.ix_flow.proofs.check.check_flat.Goals as goal

pub returns-in_err-phys : goal.returns-in_err-phys
returns-in_err-phys c f same =
    exits_first (named_phys c.read_physical.new.names) outcome_seen
    (physical_in f (content_seen c.args.physical.now))
    (λ p. judged c.args.level c.args.device.now c.args.flat.now p)
    c.in_err-phys.field-0.0 c.from_residual.result
    c.from_residual.ensures.1 (c.in_err-phys.ensures.read f same)

pub returns : goal.returns
returns c f same =
    goes_on outcome_seen (physical_in f (content_seen c.args.physical.now))
    (λ p. judged c.args.level c.args.device.now c.args.flat.now p)
    (named_phys c.read_physical.new.names c.in_ok-phys.phys) c.judge.result
    (c.in_ok-phys.ensures.read f same) c.judge.ensures

pub judge-requires-clause-device : goal.judge-requires-clause-device
judge-requires-clause-device c = c.devices_stay_named.ensures c.args.names.now
    c.read_physical.new.names c.args.device.now c.in_ok-phys.ensures.keeps c.requires.device

pub judge-requires-clause-named : goal.judge-requires-clause-named
judge-requires-clause-named c = c.flats_stay_named.ensures.named c.args.names.now
    c.read_physical.new.names c.args.flat.now c.in_ok-phys.ensures.keeps c.requires.named

pub judge-requires-clause-whole : goal.judge-requires-clause-whole
judge-requires-clause-whole c = c.flats_stay_named.ensures.whole c.args.names.now
    c.read_physical.new.names c.args.device.now c.args.flat.now c.in_ok-phys.ensures.keeps
    c.requires.whole
