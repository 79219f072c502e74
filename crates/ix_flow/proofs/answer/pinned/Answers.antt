use Rattle.std.proofs.Common.{sym, ◌∙◌}
use Rattle.ix_flow.proofs.Ports.{port_cells_are, top_fits}
use Rattle.ix_flow.proofs.answer.pinned.Goals as goal

pub fixed_pins-requires-clause-top : goal.fixed_pins-requires-clause-top
fixed_pins-requires-clause-top c = top_fits c.requires.design.0 c.args.rec.now c.requires.design.1

pub fixed_pins-requires-clause-ports : goal.fixed_pins-requires-clause-ports
fixed_pins-requires-clause-ports c = port_cells_are c.args.names.now c.args.rec.now
    ∙ sym c.requires.flat.1.flattened.is.ports
