use Rattle.ix_first.specs.First.{value_of}
use Rattle.ix_device.proofs.SitePipLemmas.{one_more_mark}
use Rattle.ix_device.proofs.site_pips.inverting_pins.Goals as goal

pub loop-i-preserved : goal.loop-i-preserved
loop-i-preserved c = λ pin within. one_more_mark pin c.args.ty.now.bels c.loop-i.i c.at.result.now (value_of c.loop-i.marks pin) _ c.at.ensures (c.loop-i.invariant pin within) (c.mark.ensures pin)
