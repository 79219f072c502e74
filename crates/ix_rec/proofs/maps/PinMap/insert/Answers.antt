use Rattle.std.proofs.Common.{◌∙◌, ap}
use Rattle.ix_rec.specs.Maps.{pin_order, pin_order_total, pin_order-IsAntisymmetric}
use Rattle.std.specs.FinMap as map
use Rattle.ix_rec.proofs.MapLemmas.{insert-tree, get-insert_same, get-insert_other}
use Rattle.ix_rec.proofs.maps.PinMap.insert.Goals as goal

pub returns-clause-ok : goal.returns-clause-ok
returns-clause-ok g c =
    insert-tree pin_order _ c.self.invariant pin_order_total (c.args.cell, c.args.pin) c.args.value _ c.insert.ensures.ordered c.in_ok-insert.ensures.entries ∙ ap (λ m. map.insert m (c.args.cell, c.args.pin) c.args.value) c.self.view_is

pub returns-clause-value : goal.returns-clause-value
returns-clause-value g c =
    ap (λ m. map.get m (c.args.cell, c.args.pin)) (returns-clause-ok g c) ∙ get-insert_same pin_order_total pin_order-IsAntisymmetric c.args.self.now (c.args.cell, c.args.pin) c.args.value

pub returns-clause-others : goal.returns-clause-others
returns-clause-others g c q other =
    ap (λ m. map.get m q) (returns-clause-ok g c) ∙ get-insert_other pin_order_total pin_order-IsAntisymmetric c.args.self.now (c.args.cell, c.args.pin) c.args.value q other
