use Rattle.std.proofs.Common.{◌∙◌, sym, ap}
use Rattle.std.specs.Ordering.{nat_cmp}
use Rattle.std.specs.FinMap as map
use Rattle.ix_rec.proofs.MapLemmas.{len-tree}
use Rattle.ix_rec.proofs.maps.CellMap.len.Goals as goal

pub returns : goal.returns
returns g c = c.len.ensures.len ∙ sym (len-tree nat_cmp _ c.self.invariant) ∙ ap map.len c.self.view_is
