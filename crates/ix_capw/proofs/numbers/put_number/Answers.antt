use Rattle.byteorder.specs.Endian.{little_bytes}
use Rattle.ix_capw.proofs.Writes.{put_tail}
use Rattle.ix_capw.proofs.numbers.put_number.Goals as goal

pub returns : goal.returns
returns c = put_tail c.args.at 4 c.args.file.now (little_bytes 4 c.args.number) c.write_u32.new.buf c.write_u32.ensures
