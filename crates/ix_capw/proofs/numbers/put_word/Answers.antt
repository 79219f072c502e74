use Rattle.byteorder.specs.Endian.{little_bytes}
use Rattle.ix_capw.proofs.Writes.{put_tail}
use Rattle.ix_capw.proofs.numbers.put_word.Goals as goal

pub returns : goal.returns
returns c = put_tail c.args.at 8 c.args.file.now (little_bytes 8 c.args.word) c.write_u64.new.buf c.write_u64.ensures
