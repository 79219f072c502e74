use Rattle.std.proofs.Common.{◌∙◌, sym, ap}
use Rattle.ix_rec.specs.Maps.{pin_order}
use Rattle.std.specs.FinMap as map
use Rattle.ix_rec.proofs.MapLemmas.{get-tree}
use Rattle.ix_fill_tables.proofs.pairs.PairMap.get.Goals as goal

pub returns : goal.returns
returns g c = c.copied.ensures ∙ c.get.ensures.value
    ∙ sym (get-tree pin_order _ c.self.invariant (c.args.first, c.args.second))
    ∙ ap (λ m. map.get m (c.args.first, c.args.second)) c.self.view_is
