use Rattle.std.proofs.Common.{refl}
use Rattle.ix_belmap_cases.proofs.answer.grouped.Goals as goal

pub groups-requires : goal.groups-requires
groups-requires c = c.if-not-is_design.ensures.range refl c.args.device.now
