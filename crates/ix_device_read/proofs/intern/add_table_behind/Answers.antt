use Rattle.std.proofs.Common.{subst, sym}
use Rattle.std.specs.Prelude.{IfOk}
use Rattle.ix_frame.specs.Target.{Elements}
use Rattle.ix_schema.specs.Said.{texts_said}
use Rattle.ix_device_read.specs.Loose.{HasRoom, Adds, AreNumbersOf}
use Rattle.ix_device_read.proofs.intern.add_table_behind.Goals as goal

pub add_table-requires : goal.add_table-requires
add_table-requires c = subst (λ (l : Elements). HasRoom (texts_said l.count l 0) c.args.names.now) (sym c.sound_texts.ensures) c.requires

pub returns-clause-adds : goal.returns-clause-adds
returns-clause-adds c = subst (λ (l : Elements). Adds c.add_table.result (texts_said l.count l 0) c.args.names.now c.add_table.new.names) c.sound_texts.ensures c.add_table.ensures.adds

pub returns-clause-numbers : goal.returns-clause-numbers
returns-clause-numbers c = subst (λ (l : Elements). IfOk c.add_table.result (λ ids. AreNumbersOf c.add_table.new.names ids (texts_said l.count l 0))) c.sound_texts.ensures c.add_table.ensures.numbers
