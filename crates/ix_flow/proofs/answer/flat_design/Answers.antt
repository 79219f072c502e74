use Rattle.std.proofs.Common.{Err, length, subst, sym}
use Rattle.ix_asked.specs.Faults.{IsDesignFault}
use Rattle.ix_job.specs.Chain.{Meets}
use Rattle.ix_flow.specs.Answer.{flattened}
use Rattle.ix_flow.specs.Named.{named_design, named_flat}
use Rattle.ix_flow.proofs.Answering.{broken_told, flat_told}
use Rattle.ix_flow.proofs.answer.flat_design.Goals as goal

pub flatten-requires-clause-fits : goal.flatten-requires-clause-fits
flatten-requires-clause-fits c =
    c.read_netlists_fit.ensures c.args.names.now c.args.rec.now c.requires.design

pub flatten-requires-clause-inputs : goal.flatten-requires-clause-inputs
flatten-requires-clause-inputs c =
    c.read_devices_fit.ensures (length c.args.names.now) c.args.device.now c.requires.device

pub returns-in-Ok-clause-flat : goal.returns-in-Ok-clause-flat
returns-in-Ok-clause-flat c =
    flat_told c.args.device.now c.args.names.now c.flatten.new.names c.args.rec.now c.in-Ok.flat
    c.flatten.ensures.keeps c.len-count.ensures.differ c.in-Ok.ensures.flat c.in-Ok.ensures.range
    c.in-Ok.ensures.named c.in-Ok.ensures.whole c.in-Ok.ensures.most_cells

pub returns-in-Err-Broken-clause-flat : goal.returns-in-Err-Broken-clause-flat
returns-in-Err-Broken-clause-flat c =
    subst (λ stop. Meets (named_flat c.flatten.new.names)
    (flattened c.args.device.now (named_design c.args.names.now c.args.rec.now)) (Err stop))
    (sym c.broken.ensures)
    (broken_told c.args.device.now c.args.names.now c.flatten.new.names c.args.rec.now _ _
    c.flatten.ensures.keeps
    (subst (IsDesignFault c.flatten.new.names c.args.device.now c.args.rec.now)
    c.in-Err-Broken.field-0-is c.in-Err-Broken.ensures.broken))
