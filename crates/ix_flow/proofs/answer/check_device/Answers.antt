use Rattle.std.proofs.Common.{subst, sym, Err, rules}
use Rattle.ix_device.specs.Faults.{IsFault}
use Rattle.ix_device_rules.specs.Rules.{first_broken}
use Rattle.ix_job.specs.Chain.{Meets}
use Rattle.ix_flow.specs.Answer.{device_in}
use Rattle.ix_flow.specs.Named.{named_device}
use Rattle.ix_flow.proofs.Answering.{rule_told}
use Rattle.ix_flow.proofs.answer.check_device.Goals as goal

pub returns-in-Err-Broken : goal.returns-in-Err-Broken
returns-in-Err-Broken c all reads named =
    subst (λ stop. Meets (named_device c.args.names.now) (device_in all) (Err stop))
    (sym c.broken.ensures)
    (rule_told all c.args.names.now c.args.rec _ _ (search rules) reads named
    (subst (IsFault (first_broken c.args.rec)) c.in-Err-Broken.field-0-is
    c.in-Err-Broken.ensures.broken))
