use Rattle.ix_schema.proofs.Names.{field_there, no_field, no_struct_there}
use Rattle.ix_schema.proofs.table.Table.field.Goals as goal

pub returns-in_default : goal.returns-in_default
returns-in_default c ss named = no_struct_there c.args.self.now.structs.now ss c.args.n c.args.field named c.in_default.ensures.lookup.3

pub returns-in-Some-get : goal.returns-in-Some-get
returns-in-Some-get c ss named = field_there c.args.self.now.structs.now ss c.args.n c.args.field c.in-Some.form.now c.in-Some-get.name.now named c.in-Some.ensures.lookup.3.0 c.in-Some.ensures.lookup.3.1 c.in-Some-get.ensures.lookup.3.0 c.in-Some-get.ensures.lookup.3.1

pub returns-in-None : goal.returns-in-None
returns-in-None c ss named = no_field c.args.self.now.structs.now ss c.args.n c.args.field c.in-Some.form.now named c.in-Some.ensures.lookup.3.0 c.in-Some.ensures.lookup.3.1 c.in-None.ensures.lookup.3
