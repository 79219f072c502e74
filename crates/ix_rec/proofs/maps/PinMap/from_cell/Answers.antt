use Rattle.std.proofs.Common.{rules, ◌∙◌, sym, ap, filter, nat_le}
use Rattle.ix_rec.specs.Maps.{pin_order}
use Rattle.std.specs.FinMap as map
use Rattle.ix_rec.proofs.MapLemmas.{entries-tree, entries_between-from_cell}
use Rattle.ix_rec.proofs.maps.PinMap.from_cell.Goals as goal

pub returns-clause-entries : goal.returns-clause-entries
returns-clause-entries g c =
    c.range.ensures.between (search rules) ∙ entries_between-from_cell c.args.cell _ _ c.new.ensures
    ∙ ap (λ es. filter (λ e. nat_le c.args.cell e.0.0) es) (sym (entries-tree pin_order _ c.self.invariant) ∙ ap map.entries c.self.view_is)
