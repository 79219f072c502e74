use Rattle.std.proofs.Common.{◌∙◌}
use Rattle.ix_schema.specs.Structs.{phys_structs}
use Rattle.ix_phys_read.proofs.Words.{field_in_table}
use Rattle.ix_phys_read.proofs.read.field_name.Goals as goal

pub returns-else-kind-eq-BRANCH : goal.returns-else-kind-eq-BRANCH
returns-else-kind-eq-BRANCH c =
    c.field.ensures phys_structs c.phys_table.ensures.names
    ∙ field_in_table c.args.kind c.args.field c.if-kind-eq-BRANCH.false
