use Rattle.std.proofs.Common.{◌<◌, ◌∙◌, ap, length, slice_get, subst, sym}
use Rattle.ix_differences.specs.Earliest.{AgreesAt}
use Rattle.ix_differences.proofs.Turns.{names_there, nets_agree, nets_differ, next_fits}
use Rattle.ix_differences.proofs.Turns.{pin_agrees, pin_differs, pins_done}
use Rattle.ix_differences.proofs.pins.first_of.Goals as goal

pub at-requires : goal.at-requires
at-requires c = subst (λ n. n < length c.args.own.now.flat.now.cells) (sym c.get.ensures)
    (next_fits c.args.own.now.flat.now c.loop-cell.cell-iterator c.next.new.self
    c.loop-cell.invariant.0 (c.in-Some.field-0-0.now, c.in-Some.net.now) c.requires.own.fits
    c.loop-cell.invariant.1 c.in-Some.ensures.steps).0

pub named_net-requires : goal.named_net-requires
named_net-requires c =
    (next_fits c.args.own.now.flat.now c.loop-cell.cell-iterator c.next.new.self
    c.loop-cell.invariant.0 (c.in-Some.field-0-0.now, c.in-Some.net.now) c.requires.own.fits
    c.loop-cell.invariant.1 c.in-Some.ensures.steps).1

pub earlier_pin-first-requires-clause-y : goal.earlier_pin-first-requires-clause-y
earlier_pin-first-requires-clause-y c = names_there c.args.names.now c.args.own.now.flat.now
    c.loop-cell.cell-iterator c.next.new.self c.loop-cell.invariant.0
    (c.in-Some.field-0-0.now, c.in-Some.net.now) c.at.result.now c.requires.own.named
    c.loop-cell.invariant.1 c.in-Some.ensures.steps
    (ap (slice_get c.args.own.now.flat.now.cells) (sym c.get.ensures) ∙ c.at.ensures)

pub loop-cell-preserved-then-not-is_on : goal.loop-cell-preserved-then-not-is_on
loop-cell-preserved-then-not-is_on c =
    let at = ap (slice_get c.args.own.now.flat.now.cells) (sym c.get.ensures) ∙ c.at.ensures in
    pin_differs c.args.names.now (AgreesAt c.args.own.now.flat.now c.args.other.now.flat.now)
    c.args.own.now.flat.now c.loop-cell.cell-iterator c.next.new.self
    (c.in-Some.field-0-0.now, c.in-Some.net.now) c.at.result.now c.loop-cell.first
    c.earlier_pin-first.result c.requires.own.named c.in-Some.ensures.steps at
    (nets_differ c.args.own.now.flat.now c.args.other.now.flat.now c.loop-cell.cell-iterator
    c.next.new.self c.loop-cell.invariant.0 (c.in-Some.field-0-0.now, c.in-Some.net.now)
    c.at.result.now c.named_net.result c.is_on.result c.requires.own.differ
    c.loop-cell.invariant.1 c.in-Some.ensures.steps at c.named_net.ensures c.is_on.ensures
    c.if-not-is_on.true)
    c.earlier_pin-first.ensures c.loop-cell.invariant

pub loop-cell-preserved : goal.loop-cell-preserved
loop-cell-preserved c =
    let at = ap (slice_get c.args.own.now.flat.now.cells) (sym c.get.ensures) ∙ c.at.ensures in
    pin_agrees c.args.names.now (AgreesAt c.args.own.now.flat.now c.args.other.now.flat.now)
    c.args.own.now.flat.now c.loop-cell.cell-iterator c.next.new.self
    (c.in-Some.field-0-0.now, c.in-Some.net.now) c.at.result.now c.loop-cell.first
    c.in-Some.ensures.steps at
    (nets_agree c.args.own.now.flat.now c.args.other.now.flat.now c.loop-cell.cell-iterator
    c.next.new.self c.loop-cell.invariant.0 (c.in-Some.field-0-0.now, c.in-Some.net.now)
    c.at.result.now c.named_net.result c.is_on.result c.requires.own.differ
    c.loop-cell.invariant.1 c.in-Some.ensures.steps at c.named_net.ensures c.is_on.ensures
    c.if-not-is_on.false)
    c.loop-cell.invariant

pub returns : goal.returns
returns c = pins_done c.args.names.now
    (AgreesAt c.args.own.now.flat.now c.args.other.now.flat.now) c.args.own.now.flat.now
    c.loop-cell.cell-iterator c.loop-cell.first c.in-None.ensures.steps.0 c.loop-cell.invariant
