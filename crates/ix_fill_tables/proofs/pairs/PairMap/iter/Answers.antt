use Rattle.std.proofs.Common.{◌∙◌, sym, ap}
use Rattle.ix_rec.specs.Maps.{pin_order}
use Rattle.std.specs.FinMap as map
use Rattle.ix_rec.proofs.MapLemmas.{entries-tree}
use Rattle.ix_fill_tables.proofs.pairs.PairMap.iter.Goals as goal

pub returns-clause-entries : goal.returns-clause-entries
returns-clause-entries g c = c.iter.ensures.rest
    ∙ sym (entries-tree pin_order _ c.self.invariant) ∙ ap map.entries c.self.view_is
