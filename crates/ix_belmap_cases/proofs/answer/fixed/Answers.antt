use Rattle.std.proofs.Common.{refl}
use Rattle.ix_belmap_cases.proofs.answer.fixed.Goals as goal

pub fixed_pins-requires-clause-range : goal.fixed_pins-requires-clause-range
fixed_pins-requires-clause-range c = c.if-not-is_design.ensures.range refl c.args.device.now
