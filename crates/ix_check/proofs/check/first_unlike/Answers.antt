use Rattle.std.proofs.Common.{subst, length, IfSome}
use Rattle.ix_flat.specs.Range.{IsInRange, IsNamed}
use Rattle.ix_extract.specs.Extracted.{TellsDesign}
use Rattle.ix_check.proofs.Differing.{names_differ}
use Rattle.ix_check.proofs.Functions.{legal_has_functions}
use Rattle.ix_check.proofs.Telling.{compared}
use Rattle.ix_check.proofs.check.first_unlike.Goals as goal

pub first_difference-requires-clause-fits_a : goal.first_difference-requires-clause-fits_a
first_difference-requires-clause-fits_a c =
    let fits = subst (λ o. IfSome o (IsInRange c.args.device.now)) c.in-Some.is
    c.in_ok-extracted.ensures.range in fits.numbers

pub first_difference-requires-clause-fits_b : goal.first_difference-requires-clause-fits_b
first_difference-requires-clause-fits_b c = c.requires.range.numbers

pub first_difference-requires-clause-named_a : goal.first_difference-requires-clause-named_a
first_difference-requires-clause-named_a c = subst
    (λ o. IfSome o (IsNamed (length c.args.names.now))) c.in-Some.is
    (c.in_ok-extracted.ensures.named c.requires.device)

pub first_difference-requires-clause-differ_a : goal.first_difference-requires-clause-differ_a
first_difference-requires-clause-differ_a c =
    let is = subst (TellsDesign c.args.names.now c.args.device.now c.args.phys.now) c.in-Some.is
    c.in_ok-extracted.ensures.design in
    names_differ c.args.level c.args.names.now c.args.device.now c.args.phys.now
    c.in-Some.extracted c.requires.legal is.cells

pub unreachable-requires : goal.unreachable-requires
unreachable-requires c = legal_has_functions c.args.level c.args.names.now c.args.device.now
    c.args.phys.now c.requires.legal
    (subst (TellsDesign c.args.names.now c.args.device.now c.args.phys.now) c.in-None.is
    c.in_ok-extracted.ensures.design)

pub returns : goal.returns
returns c =
    let is = subst (TellsDesign c.args.names.now c.args.device.now c.args.phys.now) c.in-Some.is
    c.in_ok-extracted.ensures.design in
    compared c.args.names.now c.args.device.now c.args.phys.now c.args.flat.now
    c.in-Some.extracted c.first_difference.result is c.first_difference.ensures
