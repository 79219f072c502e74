use Rattle.ix_belmap.proofs.BelSums.{home_told}
use Rattle.ix_belmap.proofs.bels.is_home.Goals as goal

pub returns : goal.returns
returns c = home_told c.args.device.now c.args.ty c.type_at.result c.args.place
    c.bels_in_type.result c.bels_in_type.ensures.count c.type_at.ensures
