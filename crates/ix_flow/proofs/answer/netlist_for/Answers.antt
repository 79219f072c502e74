use Rattle.ix_job.specs.Views.{outcome_seen}
use Rattle.ix_job.specs.Chains.{exits_first, goes_on}
use Rattle.ix_flow.specs.Answer.{placed, written}
use Rattle.ix_flow.specs.Named.{named_cells}
use Rattle.ix_flow.proofs.answer.netlist_for.Goals as goal

pub returns-in_err-phys : goal.returns-in_err-phys
returns-in_err-phys c =
    exits_first (λ phys. phys) outcome_seen
    (placed c.args.device.now (named_cells c.args.names.now c.args.cells.now))
    (λ phys. written (named_cells c.args.names.now c.args.cells.now) phys)
    c.in_err-phys.field-0.0 c.from_residual.result
    c.from_residual.ensures.1 c.in_err-phys.ensures.placed

pub returns : goal.returns
returns c =
    goes_on outcome_seen (placed c.args.device.now (named_cells c.args.names.now c.args.cells.now))
    (λ phys. written (named_cells c.args.names.now c.args.cells.now) phys) c.in_ok-phys.phys
    c.write.result c.in_ok-phys.ensures.placed c.write.ensures
