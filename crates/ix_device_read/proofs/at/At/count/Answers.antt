use Rattle.std.proofs.Common.{sym, ◌∙◌, ap}
use Rattle.ix_frame.specs.Sound.{sound_elements}
use Rattle.ix_frame.specs.Target.{Elements}
use Rattle.ix_frame.specs.Views.{object_of}
use Rattle.ix_schema.specs.Said.{said}
use Rattle.ix_device_read.proofs.Said.{said_length}
use Rattle.ix_device_read.proofs.at.At.count.Goals as goal

pub returns : goal.returns
returns g c =
    let l = sound_elements (object_of c.args.self.now.o) c.args.slot in
    c.len.ensures ∙ ap (λ (e : Elements). e.count) c.sound_list.ensures ∙ sym (said_length (said g.T.Take.shape) l.count l 0)
