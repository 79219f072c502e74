use Rattle.ix_rec.specs.Maps.{pin_order}
use Rattle.ix_rec.proofs.MapLemmas.{empty-tree}
use Rattle.ix_fill_tables.proofs.pairs.PairMap.new.Goals as goal

pub returns : goal.returns
returns g c = empty-tree pin_order _ c.new.ensures.empty
