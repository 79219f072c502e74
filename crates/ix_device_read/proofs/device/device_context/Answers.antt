use Rattle.std.proofs.Common.{◌∙◌, map, ap}
use Rattle.ix_frame.specs.Target.{Elements}
use Rattle.ix_frame.specs.Views.{object_of}
use Rattle.ix_device_read.specs.Numbers.{name_text}
use Rattle.ix_device_read.proofs.Rooted.{sizes_said}
use Rattle.ix_device_read.proofs.device.device_context.Goals as goal

pub returns-clause-sizes : goal.returns-clause-sizes
returns-clause-sizes c =
    sizes_said (map (name_text c.args.names.now) c.args.strings.now) c.args.names.now (object_of c.args.root) c.args.tile_types.now c.len.result c.len-2.result c.requires.counts (c.len.ensures ∙ ap (λ (e : Elements). e.count) c.sound_list.ensures) (c.len-2.ensures ∙ ap (λ (e : Elements). e.count) c.sound_list-2.ensures)
