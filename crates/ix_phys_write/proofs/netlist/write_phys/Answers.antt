use Rattle.ix_phys_write.proofs.Rereading.{written_reads}
use Rattle.ix_phys_write.proofs.netlist.write_phys.Goals as goal

pub returns-clause-reads : goal.returns-clause-reads
returns-clause-reads c =
    written_reads (λ file. file.items) c.args.names.now c.args.phys.now c.write_message.result c.names_are_utf8.ensures c.write_message.ensures.bytes c.write_message.ensures.fits
