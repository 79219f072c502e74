use Rattle.std.proofs.Common.{◌∙◌, sym, ap}
use Rattle.ix_rec.specs.Maps.{pin_order}
use Rattle.std.specs.FinMap as map
use Rattle.ix_rec.proofs.MapLemmas.{get-tree}
use Rattle.ix_rec.proofs.maps.PinMap.get.Goals as goal

pub returns : goal.returns
returns g c =
    c.copied.ensures ∙ c.get.ensures.value ∙ sym (get-tree pin_order _ c.self.invariant (c.args.cell, c.args.pin)) ∙ ap (λ m. map.get m (c.args.cell, c.args.pin)) c.self.view_is
