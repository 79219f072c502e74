use Rattle.std.specs.Ordering.{nat_cmp}
use Rattle.ix_rec.proofs.MapLemmas.{empty-tree}
use Rattle.ix_rec.proofs.maps.CellMap.new.Goals as goal

pub returns : goal.returns
returns g c = empty-tree nat_cmp _ c.new.ensures.empty
