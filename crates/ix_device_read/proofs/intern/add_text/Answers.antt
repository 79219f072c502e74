use Rattle.ix_device_read.proofs.Adding.{adds_by}
use Rattle.ix_device_read.proofs.intern.add_text.Goals as goal

pub returns-clause-adds : goal.returns-clause-adds
returns-clause-adds c =
    adds_by c.add.result c.args.text.now c.args.names.now c.add.new.self c.add.ensures.names c.add.ensures.text c.add.ensures.err
