use Rattle.std.proofs.Common.{subst, sym}
use Rattle.ix_frame.specs.Target.{Elements}
use Rattle.ix_schema.specs.Said.{texts_said}
use Rattle.ix_device_read.specs.Loose.{HasRoom, Adds}
use Rattle.ix_device_read.proofs.intern.add_texts_behind.Goals as goal

pub add_each-requires : goal.add_each-requires
add_each-requires c = subst (λ (l : Elements). HasRoom (texts_said l.count l 0) c.args.names.now) (sym c.sound_texts.ensures) c.requires

pub returns : goal.returns
returns c = subst (λ (l : Elements). Adds c.add_each.result (texts_said l.count l 0) c.args.names.now c.add_each.new.names) c.sound_texts.ensures c.add_each.ensures
