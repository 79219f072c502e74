use Rattle.std.proofs.Common.{◌∙◌, ap, sym, subst, slice_get}
use Rattle.std.specs.Prelude.{IfSome, option_and_then}
use Rattle.ix_lut_tables.specs.Tables.{HasFewInputs}
use Rattle.ix_flat_rules.proofs.luts.lut_type.Goals as goal

pub returns-in-Some-clause-lut : goal.returns-in-Some-clause-lut
returns-in-Some-clause-lut c =
    let cells = c.args.device.now.lut_definitions.lut_cells in
    sym c.lut_of.ensures.lut ∙ ap (option_and_then (slice_get cells)) c.in-Some.is ∙ c.at.ensures

pub returns-in-Some-clause-sizes : goal.returns-in-Some-clause-sizes
returns-in-Some-clause-sizes c =
    let cells = c.args.device.now.lut_definitions.lut_cells in
    subst (λ o. IfSome o HasFewInputs)
    (sym c.lut_of.ensures.lut ∙ ap (option_and_then (slice_get cells)) c.in-Some.is ∙ c.at.ensures)
    c.lut_of.ensures.sizes

pub returns-in-None-clause-lut : goal.returns-in-None-clause-lut
returns-in-None-clause-lut c =
    let cells = c.args.device.now.lut_definitions.lut_cells in
    sym c.lut_of.ensures.lut ∙ ap (option_and_then (slice_get cells)) c.in-None.is
