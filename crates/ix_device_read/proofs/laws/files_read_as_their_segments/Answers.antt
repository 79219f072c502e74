use Rattle.ix_message.specs.Device.{device}
use Rattle.ix_device_read.proofs.Whole.{file_reads}
use Rattle.ix_device_read.proofs.laws.files_read_as_their_segments.Goals as goal

pub returns : goal.returns
returns c = λ bytes. file_reads device bytes
