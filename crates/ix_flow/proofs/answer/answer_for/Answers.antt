use Rattle.ix_frame.specs.Views.{segments_of}
use Rattle.ix_rec.specs.declared.place.File.TheVariants.{Design}
use Rattle.ix_job.specs.Views.{content_seen, outcome_seen}
use Rattle.ix_job.specs.Chain.{and_then}
use Rattle.ix_job.specs.Chains.{exits_first, goes_on}
use Rattle.ix_flow.specs.Answer.{opens, design_in, cells_in, netlist_for}
use Rattle.ix_flow.specs.Named.{named_device, named_design, named_cells}
use Rattle.std.proofs.Common.{refl}
use Rattle.ix_flow.proofs.answer.answer_for.Goals as goal

pub returns-in_err-frame : goal.returns-in_err-frame
returns-in_err-frame c =
    exits_first segments_of outcome_seen (opens Design (content_seen c.args.design.now))
    (λ all. and_then (design_in (named_device c.args.names.now c.args.device.now) all)
    (λ read. and_then (cells_in c.args.device.now read)
    (λ cells. netlist_for c.args.device.now cells))) c.in_err-frame.field-0.0
    c.from_residual.result
    c.from_residual.ensures.1 c.in_err-frame.ensures

pub returns-in_err-rec : goal.returns-in_err-rec
returns-in_err-rec c =
    goes_on outcome_seen (opens Design (content_seen c.args.design.now))
    (λ all. and_then (design_in (named_device c.args.names.now c.args.device.now) all)
    (λ read. and_then (cells_in c.args.device.now read)
    (λ cells. netlist_for c.args.device.now cells)))
    (segments_of c.in_ok-frame.frame) _ c.in_ok-frame.ensures
    (exits_first (named_design c.read_design.new.names) outcome_seen
    (design_in (named_device c.args.names.now c.args.device.now)
    (segments_of c.in_ok-frame.frame)) (λ read. and_then (cells_in c.args.device.now read)
    (λ cells. netlist_for c.args.device.now cells))
    c.in_err-rec.field-0.0 c.from_residual-in_err-rec.result
    c.from_residual-in_err-rec.ensures.1
    (c.in_err-rec.ensures.read (named_device c.args.names.now c.args.device.now) refl))

pub cells_in-requires-clause-device : goal.cells_in-requires-clause-device
cells_in-requires-clause-device c = c.devices_stay_named.ensures c.args.names.now c.read_design.new.names
    c.args.device.now c.in_ok-rec.ensures.keeps c.requires.named

pub returns-in_err-cells : goal.returns-in_err-cells
returns-in_err-cells c =
    goes_on outcome_seen (opens Design (content_seen c.args.design.now))
    (λ all. and_then (design_in (named_device c.args.names.now c.args.device.now) all)
    (λ read. and_then (cells_in c.args.device.now read)
    (λ cells. netlist_for c.args.device.now cells)))
    (segments_of c.in_ok-frame.frame) _ c.in_ok-frame.ensures
    (goes_on outcome_seen (design_in (named_device c.args.names.now c.args.device.now)
    (segments_of c.in_ok-frame.frame)) (λ read. and_then (cells_in c.args.device.now read)
    (λ cells. netlist_for c.args.device.now cells))
    (named_design c.read_design.new.names c.in_ok-rec.rec) _
    (c.in_ok-rec.ensures.read (named_device c.args.names.now c.args.device.now) refl)
    (exits_first (named_cells c.cells_in.new.names) outcome_seen
    (cells_in c.args.device.now (named_design c.read_design.new.names c.in_ok-rec.rec))
    (λ cells. netlist_for c.args.device.now cells)
    c.in_err-cells.field-0.0 c.from_residual-in_err-cells.result
    c.from_residual-in_err-cells.ensures.1 c.in_err-cells.ensures.cells))

pub netlist_for-requires-clause-named : goal.netlist_for-requires-clause-named
netlist_for-requires-clause-named c = c.devices_stay_named.ensures c.read_design.new.names c.cells_in.new.names
    c.args.device.now c.in_ok-cells.ensures.keeps
    (c.devices_stay_named.ensures c.args.names.now c.read_design.new.names c.args.device.now
    c.in_ok-rec.ensures.keeps c.requires.named)

pub returns : goal.returns
returns c =
    goes_on outcome_seen (opens Design (content_seen c.args.design.now))
    (λ all. and_then (design_in (named_device c.args.names.now c.args.device.now) all)
    (λ read. and_then (cells_in c.args.device.now read)
    (λ cells. netlist_for c.args.device.now cells)))
    (segments_of c.in_ok-frame.frame) _ c.in_ok-frame.ensures
    (goes_on outcome_seen (design_in (named_device c.args.names.now c.args.device.now)
    (segments_of c.in_ok-frame.frame)) (λ read. and_then (cells_in c.args.device.now read)
    (λ cells. netlist_for c.args.device.now cells))
    (named_design c.read_design.new.names c.in_ok-rec.rec) _
    (c.in_ok-rec.ensures.read (named_device c.args.names.now c.args.device.now) refl)
    (goes_on outcome_seen
    (cells_in c.args.device.now (named_design c.read_design.new.names c.in_ok-rec.rec))
    (λ cells. netlist_for c.args.device.now cells)
    (named_cells c.cells_in.new.names c.in_ok-cells.cells) c.netlist_for.result
    c.in_ok-cells.ensures.cells c.netlist_for.ensures))

pub cells_in-requires-clause-design : goal.cells_in-requires-clause-design
cells_in-requires-clause-design c =
    (c.in_ok-rec.ensures.read (named_device c.args.names.now c.args.device.now) refl).named
