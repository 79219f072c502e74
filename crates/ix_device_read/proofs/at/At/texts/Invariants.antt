use Rattle.std.proofs.Common.{◌≡◌, ◌-◌, map}
use Rattle.ix_frame.specs.Views.{text_elements}
use Rattle.ix_schema.specs.Said.{texts_said}
use Rattle.ix_device_read.specs.Finish.{known, each_alone}
use Rattle.ix_device_read.specs.Named.{limit_of, AllNamed}
use Rattle.ix_device_read.specs.Numbers.{name_text}
use Rattle.ix_device_read.specs.Views.{sizes_of}
use Rattle.ix_device_read.proofs.Each.{behind_some}
use Rattle.ix_device_read.proofs.at.At.texts.Given as goal

abbrev pub invariant-loop-i : goal.invariant-loop-i
invariant-loop-i l = record {
  is : behind_some (map (name_text l.ctx.names.now) l.found) (each_alone (known (sizes_of l.ctx l.self.scope)) (texts_said ((text_elements l.list).count - l.i) (text_elements l.list) l.i))
      ≡ each_alone (known (sizes_of l.ctx l.self.scope)) (texts_said (text_elements l.list).count (text_elements l.list) 0);
  named : AllNamed (limit_of l.ctx) l.found;
}
