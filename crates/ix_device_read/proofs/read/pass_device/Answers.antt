use Rattle.std.proofs.Common.{refl}
use Rattle.ix_message.specs.Device.{device}
use Rattle.ix_device_read.proofs.read.pass_device.Goals as goal

pub returns : goal.returns
returns c = c.pass_message.ensures device c.device_table.ensures.forms refl
