use Rattle.std.proofs.lemmas.List.Filters.{dedup_is}
use Rattle.ix_bit_rows.specs.Table.{start_in, end_in}
use Rattle.ix_twice.specs.Entries.{IsEntry}
use Rattle.ix_twice.proofs.Order.{entry_eq, all_entries}
use Rattle.ix_twice.proofs.entries.entries_of.Goals as goal

pub returns : goal.returns
returns c = all_entries (IsEntry c.args.rows.now.rows c.args.written.now (start_in c.args.rows.now c.args.cell) (end_in c.args.rows.now c.args.cell))
    c.in_ok-entries.entries.items c.sort_unstable.new.self.items c.dedup.new.self.items
    c.in_ok-entries.ensures c.sort_unstable.ensures.permutation c.sort_unstable.ensures.sorted
    (dedup_is entry_eq _ _ c.dedup.ensures.filtered)
