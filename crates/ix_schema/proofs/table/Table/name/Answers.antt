use Rattle.ix_schema.proofs.Names.{named_there, unnamed}
use Rattle.ix_schema.proofs.table.Table.name.Goals as goal

pub returns-in-Some : goal.returns-in-Some
returns-in-Some c ss named = named_there c.args.self.now.structs.now ss c.args.n c.in-Some.form.now named c.in-Some.ensures.lookup.3.0 c.in-Some.ensures.lookup.3.1

pub returns-in-None : goal.returns-in-None
returns-in-None c ss named = unnamed c.args.self.now.structs.now ss c.args.n named c.in-None.ensures.lookup.3
