use Rattle.std.proofs.Common.{◌∙◌, refl}
use Rattle.ix_schema.specs.Structs.{device_structs}
use Rattle.ix_device_read.specs.Views.{kind_word, field_word}
use Rattle.ix_device_read.proofs.read.out_of_list.Goals as goal

pub returns : goal.returns
unfolding kind_word field_word
returns c = (
  c.in-Ok.ensures ∙ c.name.ensures device_structs c.device_table-table.ensures.names,
  c.in-Ok-new.ensures ∙ c.field.ensures device_structs c.device_table-table.ensures.names,
  refl,
)
