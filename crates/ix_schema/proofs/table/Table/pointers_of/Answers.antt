use Rattle.std.proofs.lemmas.Option.{slice_get-get_or}
use Rattle.ix_schema.proofs.Walks.{ordered_at}
use Rattle.ix_schema.proofs.table.Table.pointers_of.Goals as goal

pub returns-clause-ordered : goal.returns-clause-ordered
returns-clause-ordered c = ordered_at c.args.self.now.structs.now c.args.n _ c.args.self.now.ordered (slice_get-get_or c.args.self.now.structs.now c.args.n _ c.requires)
