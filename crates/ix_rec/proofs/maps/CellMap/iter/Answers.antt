use Rattle.std.proofs.Common.{◌∙◌, sym, ap}
use Rattle.std.specs.Ordering.{nat_cmp}
use Rattle.std.specs.FinMap as map
use Rattle.ix_rec.proofs.MapLemmas.{entries-tree}
use Rattle.ix_rec.proofs.maps.CellMap.iter.Goals as goal

pub returns-clause-entries : goal.returns-clause-entries
returns-clause-entries g c = c.iter.ensures.rest ∙ sym (entries-tree nat_cmp _ c.self.invariant) ∙ ap map.entries c.self.view_is
