use Rattle.std.proofs.Common.{◌∙◌, ap, sym, slice_get}
use Rattle.ix_device.proofs.ElementsFit.{element_bels_fit}
use Rattle.ix_device.proofs.device.Device.shape.Goals as goal

pub shape_of-requires-in-Some-clause-fit : goal.shape_of-requires-in-Some-clause-fit
shape_of-requires-in-Some-clause-fit c =
    element_bels_fit c.self.inside.rec c.self.invariant.valid c.args.t c.parts.result.0.now (ap (λ r. slice_get r.site_type_list c.args.t) c.self.view_is ∙ c.parts.ensures.ty) c.args.element c.in-Some.element.now (sym c.in-Some.ensures)
