use Rattle.std.proofs.lemmas.List.Filters.{dedup_is}
use Rattle.ix_port_bits.proofs.Order.{row_eq}
use Rattle.ix_port_bits.proofs.Members.{all_of_cell}
use Rattle.ix_port_bits.proofs.filling.rows_in.Goals as goal

pub returns : goal.returns
returns c = all_of_cell c.args.own c.args.cell.now c.in_ok-rows.rows.items c.sort_unstable.new.self.items c.dedup.new.self.items
    c.in_ok-rows.ensures c.sort_unstable.ensures.permutation c.sort_unstable.ensures.sorted
    (dedup_is row_eq _ _ c.dedup.ensures.filtered)
