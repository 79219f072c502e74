use Rattle.ix_rules.proofs.Verdicts.{legal}
use Rattle.ix_rules.proofs.whole.first_broken.Goals as goal

pub returns-in-Ok : goal.returns-in-Ok
returns-in-Ok c = record {
  answer = legal c.args.level c.args.names.now c.args.device.now c.args.phys.now c.requires.sound
      c.in-Ok.ensures;
}
