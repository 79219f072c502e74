use Rattle.std.proofs.Common.{◌∙◌, sym, ap}
use Rattle.std.specs.Ordering.{nat_cmp}
use Rattle.std.specs.FinMap as map
use Rattle.ix_rec.proofs.MapLemmas.{get-tree}
use Rattle.ix_rec.proofs.maps.CellMap.get.Goals as goal

pub returns : goal.returns
returns g c =
    c.copied.ensures ∙ c.get.ensures.value ∙ sym (get-tree nat_cmp _ c.self.invariant c.args.cell) ∙ ap (λ m. map.get m c.args.cell) c.self.view_is
