use Rattle.std.proofs.Common.{◌∙◌, sym, ap}
use Rattle.ix_rec.specs.Maps.{pin_order}
use Rattle.std.specs.FinMap as map
use Rattle.ix_rec.proofs.MapLemmas.{len-tree}
use Rattle.ix_rec.proofs.maps.PinMap.len.Goals as goal

pub returns : goal.returns
returns g c = c.len.ensures.len ∙ sym (len-tree pin_order _ c.self.invariant) ∙ ap map.len c.self.view_is
