use Rattle.std.proofs.Common.{refl}
use Rattle.ix_least.proofs.Slots.{put_label}
use Rattle.ix_least.proofs.labels.Labels.put.Goals as goal

pub returns : goal.returns
returns c = put_label c.self.inside.search c.self.inside.slots.items c.args.self.now c.args.p _
    c.self.view_is refl
