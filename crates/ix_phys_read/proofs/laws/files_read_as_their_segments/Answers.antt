use Rattle.ix_phys_read.proofs.Told.{file_reads}
use Rattle.ix_phys_read.proofs.laws.files_read_as_their_segments.Goals as goal

pub returns : goal.returns
returns c =
    λ bytes. file_reads bytes
