use Rattle.std.proofs.Common.{sym}
use Rattle.ix_device.specs.Shapes.{shape_seen}
use Rattle.ix_placed_luts.proofs.Placing.{names_apart}
use Rattle.ix_placed_luts.proofs.placed.placed_lut.Goals as goal

pub input_places-requires-clause-differ : goal.input_places-requires-clause-differ
input_places-requires-clause-differ c =
    names_apart c.args.device.now c.args.placement.now c.in_ok-site.site c.type_of-ty.result
    c.in_ok-bel.bel c.in_ok-element.element c.in_ok-element.place c.in_ok-lut_bel.lut_bel.now
    (shape_seen c.in_ok-shape.shape) (sym c.in_ok-site.ensures.site) c.type_of-ty.ensures.ty
    (sym c.in_ok-bel.ensures.bel) (sym c.in_ok-element.ensures)
    (sym c.in_ok-lut_bel.ensures.bel) (sym c.in_ok-shape.ensures.shape)
