use Rattle.ix_device_read.proofs.ByTable.{device_finished_is_reading}
use Rattle.ix_device_read.proofs.laws.finishing_is_reading.Goals as goal

pub returns : goal.returns
returns c = device_finished_is_reading
