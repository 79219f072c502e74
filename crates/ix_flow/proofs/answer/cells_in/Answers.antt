use Rattle.std.proofs.Common.{length, refl}
use Rattle.ix_belmap.specs.Pins.{fixings}
use Rattle.ix_job.specs.Chain.{and_then}
use Rattle.ix_job.specs.Chains.{exits_first, goes_on}
use Rattle.ix_flow.specs.Answer.{flattened, pinned, unconnected}
use Rattle.ix_flow.specs.Named.{named_design, named_flat, named_cells}
use Rattle.ix_flow.proofs.Unconnected.{cells_named}
use Rattle.ix_flow.proofs.answer.cells_in.Goals as goal

pub returns-in_err-flat-clause-cells : goal.returns-in_err-flat-clause-cells
returns-in_err-flat-clause-cells c =
    exits_first (named_flat c.flat_design.new.names) (named_cells c.flat_design.new.names)
    (flattened c.args.device.now (named_design c.args.names.now c.args.rec.now))
    (λ f. and_then (pinned c.args.device.now (named_design c.args.names.now c.args.rec.now) f)
    (λ flat. unconnected f.names flat))
    c.in_err-flat.field-0.0 c.from_residual.result
    c.from_residual.ensures.1 c.in_err-flat.ensures.flat

pub pinned-requires-clause-design : goal.pinned-requires-clause-design
pinned-requires-clause-design c = (
  length c.args.names.now,
  c.read_netlists_fit.ensures c.args.names.now c.args.rec.now c.requires.design,
)

pub pinned-requires-clause-flat : goal.pinned-requires-clause-flat
pinned-requires-clause-flat c = (c.args.names.now, c.in_ok-flat.ensures.flat)

pub returns-in_err-flat-2-clause-cells : goal.returns-in_err-flat-2-clause-cells
returns-in_err-flat-2-clause-cells c =
    goes_on (named_cells c.flat_design.new.names)
    (flattened c.args.device.now (named_design c.args.names.now c.args.rec.now))
    (λ f. and_then (pinned c.args.device.now (named_design c.args.names.now c.args.rec.now) f)
    (λ flat. unconnected f.names flat))
    (named_flat c.flat_design.new.names c.in_ok-flat.flat) _ c.in_ok-flat.ensures.flat
    (exits_first (λ flat. flat) (named_cells c.flat_design.new.names)
    (pinned c.args.device.now (named_design c.args.names.now c.args.rec.now)
    (named_flat c.flat_design.new.names c.in_ok-flat.flat))
    (λ flat. unconnected c.flat_design.new.names flat)
    c.in_err-flat-2.field-0.0 c.from_residual-in_err-flat-2.result
    c.from_residual-in_err-flat-2.ensures.1
    (c.in_err-flat-2.ensures.pinned (named_design c.args.names.now c.args.rec.now) refl))

pub returns-clause-cells : goal.returns-clause-cells
returns-clause-cells c =
    goes_on (named_cells c.flat_design.new.names)
    (flattened c.args.device.now (named_design c.args.names.now c.args.rec.now))
    (λ f. and_then (pinned c.args.device.now (named_design c.args.names.now c.args.rec.now) f)
    (λ flat. unconnected f.names flat))
    (named_flat c.flat_design.new.names c.in_ok-flat.flat) _ c.in_ok-flat.ensures.flat
    (goes_on (named_cells c.flat_design.new.names)
    (pinned c.args.device.now (named_design c.args.names.now c.args.rec.now)
    (named_flat c.flat_design.new.names c.in_ok-flat.flat))
    (λ flat. unconnected c.flat_design.new.names flat)
    c.in_ok-flat-2.flat c.unconnected.result
    (c.in_ok-flat-2.ensures.pinned (named_design c.args.names.now c.args.rec.now) refl)
    (c.unconnected.ensures c.flat_design.new.names))

pub returns-clause-named : goal.returns-clause-named
returns-clause-named c =
    cells_named c.flat_design.new.names c.in_ok-flat.flat c.in_ok-flat-2.flat
    (fixings c.flat_design.new.names c.args.device.now c.args.rec.now) c.unconnected.result
    c.in_ok-flat.ensures.flat.named
    (c.in_ok-flat-2.ensures.pinned (named_design c.args.names.now c.args.rec.now) refl)
    (c.unconnected.ensures c.flat_design.new.names)
