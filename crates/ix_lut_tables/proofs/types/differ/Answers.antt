use Rattle.std.proofs.Common.{◌∙◌, ◌+◌, arith, ap, sym, drop, ◌&&◌}
use Rattle.std.proofs.Math.ListN.{drop_of_length-le}
use Rattle.ix_device.specs.Elements.{differ}
use Rattle.ix_lut_tables.proofs.Places.{drop_at}
use Rattle.ix_lut_tables.proofs.types.differ.Goals as goal

pub returns-then-not-is_new : goal.returns-then-not-is_new
returns-then-not-is_new c = let names = c.args.names.now in
    sym (c.loop-i.invariant
    ∙ ap differ (drop_at names c.loop-i.i c.at.result.now c.at.ensures)
    ∙ ap (λ b. b && differ (drop (c.loop-i.i + 1) names)) (sym c.is_new.ensures
    ∙ c.if-not-is_new.true))

pub loop-i-preserved : goal.loop-i-preserved
loop-i-preserved c = let names = c.args.names.now in
    c.loop-i.invariant
    ∙ ap differ (drop_at names c.loop-i.i c.at.result.now c.at.ensures)
    ∙ ap (λ b. b && differ (drop (c.loop-i.i + 1) names)) (sym c.is_new.ensures
    ∙ c.if-not-is_new.false)

pub returns : goal.returns
returns c = sym (c.loop-i.invariant ∙ ap differ
    (drop_of_length-le c.args.names.now (omega (arith, c.loop-i-test.false, c.len-i-end.ensures))))
