use Rattle.std.proofs.Common.{arith}
use Rattle.ix_device_rules.proofs.LutLemmas.{far_power}
use Rattle.ix_device_rules.proofs.lut_elements.is_before_power.Goals as goal

pub returns-then-exponent-gt32 : goal.returns-then-exponent-gt32
returns-then-exponent-gt32 c = far_power c.args.last c.args.exponent (omega arith) (omega arith)
