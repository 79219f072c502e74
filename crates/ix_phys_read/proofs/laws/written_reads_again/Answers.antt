use Rattle.std.proofs.Common.{◌∙◌, sym}
use Rattle.ix_device_read.specs.Reading.{reading_in_segments}
use Rattle.ix_message.specs.Phys.{phys_netlist}
use Rattle.ix_phys_read.proofs.Told.{file_reads, same_again}
use Rattle.ix_phys_read.proofs.laws.written_reads_again.Goals as goal

pub returns : goal.returns
returns c =
    λ names now phys file all result written opened read. same_again names now phys result
    (reading_in_segments phys_netlist all)
    (sym ((file_reads file).cut all opened) ∙ written) read
