use Rattle.ix_lut.proofs.Filling.{none_failed}
use Rattle.ix_lut.proofs.assign.least_lines.Goals as goal

pub fill-requires-clause-knows : goal.fill-requires-clause-knows
fill-requires-clause-knows c = none_failed c.args.masks.now 4096
