use Rattle.std.proofs.Common.{map, replicate}
use Rattle.ix_frame.specs.Views.{object_of}
use Rattle.ix_message.specs.Device.{device}
use Rattle.ix_schema.specs.Said.{said}
use Rattle.ix_device_read.specs.Finish.{finish_at}
use Rattle.ix_device_read.specs.Numbers.{name_text}
use Rattle.ix_device_read.specs.Records.{device_record}
use Rattle.ix_device_read.specs.Sizes.{device_sizes}
use Rattle.ix_device_read.proofs.Fitting.{indexes_fit}
use Rattle.ix_device_read.proofs.Root.{whole_done}
use Rattle.ix_device_read.proofs.device.take_device.Goals as goal

pub returns-clause-made : goal.returns-clause-made
returns-clause-made c =
    let v = said device (object_of c.args.root) in
    whole_done (device_record c.args.names.now) c.take.result c.take.new.walk (finish_at device (device_sizes (map (name_text c.args.names.now) c.args.strings.now) c.args.names.now v) v (replicate 29 0))
    (rw (c.device_context-ctx.ensures.sizes, c.device_context-ctx.ensures.names, c.new-walk.ensures) at c.take.ensures.made)

pub returns-clause-named : goal.returns-clause-named
returns-clause-named c = rw (c.device_context-ctx.ensures.names, c.device_context-ctx.ensures.strings) at c.take.ensures.named

pub returns-clause-fits : goal.returns-clause-fits
returns-clause-fits c =
    let v = said device (object_of c.args.root) in
    indexes_fit c.args.names.now (map (name_text c.args.names.now) c.args.strings.now) v c.take.result
    (whole_done (device_record c.args.names.now) c.take.result c.take.new.walk (finish_at device (device_sizes (map (name_text c.args.names.now) c.args.strings.now) c.args.names.now v) v (replicate 29 0))
    (rw (c.device_context-ctx.ensures.sizes, c.device_context-ctx.ensures.names, c.new-walk.ensures) at c.take.ensures.made))
