use Rattle.std.proofs.Common.{◌∙◌, refl}
use Rattle.ix_schema.specs.Structs.{phys_structs}
use Rattle.ix_take.specs.Views.{kind_word}
use Rattle.ix_phys_read.proofs.Words.{kind_in_table}
use Rattle.ix_phys_read.proofs.read.kind_name.Goals as goal

pub returns-then-kind-eq-BRANCH : goal.returns-then-kind-eq-BRANCH
unfolding kind_word
returns-then-kind-eq-BRANCH c = rw c.if-kind-eq-BRANCH.true refl

pub returns-else-kind-eq-BRANCH : goal.returns-else-kind-eq-BRANCH
returns-else-kind-eq-BRANCH c =
    c.name.ensures phys_structs c.phys_table.ensures.names
    ∙ kind_in_table c.args.kind c.if-kind-eq-BRANCH.false
