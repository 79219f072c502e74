use Rattle.std.proofs.Common.{◌∙◌, ap}
use Rattle.std.specs.Ordering.{nat_cmp}
use Rattle.std.specs.Cmp.{nat_cmp_total}
use Rattle.std.specs.FinMap.{nat_cmp-IsAntisymmetric}
use Rattle.std.specs.FinMap as map
use Rattle.ix_rec.proofs.MapLemmas.{insert-tree, get-insert_same, get-insert_other}
use Rattle.ix_rec.proofs.maps.CellMap.insert.Goals as goal

pub returns-clause-ok : goal.returns-clause-ok
returns-clause-ok g c =
    insert-tree nat_cmp _ c.self.invariant nat_cmp_total c.args.cell c.args.value _ c.insert.ensures.ordered c.in_ok-insert.ensures.entries ∙ ap (λ m. map.insert m c.args.cell c.args.value) c.self.view_is

pub returns-clause-value : goal.returns-clause-value
returns-clause-value g c =
    ap (λ m. map.get m c.args.cell) (returns-clause-ok g c) ∙ get-insert_same nat_cmp_total nat_cmp-IsAntisymmetric c.args.self.now c.args.cell c.args.value

pub returns-clause-others : goal.returns-clause-others
returns-clause-others g c q other =
    ap (λ m. map.get m q) (returns-clause-ok g c) ∙ get-insert_other nat_cmp_total nat_cmp-IsAntisymmetric c.args.self.now c.args.cell c.args.value q other
