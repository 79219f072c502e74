use Rattle.std.proofs.Common.{◌∙◌, ap, nat_eq, option_map}
use Rattle.ix_first.specs.First.{value_of, or_later}
use Rattle.ix_device.proofs.SitePipLemmas.{one_more_pip}
use Rattle.ix_device.proofs.site_pips.first_pips.Goals as goal

pub loop-i-preserved : goal.loop-i-preserved
loop-i-preserved c =
    λ pin within. one_more_pip pin c.args.ty.now.site_pips c.loop-i.i c.at-pip.result.now (value_of c.loop-i.first pin) _ c.at-pip.ensures (c.loop-i.invariant pin within)
    (c.put.ensures pin ∙ ap (λ n. option_map (λ v. or_later v (nat_eq n pin) c.at-pip.result.now.outpin) (value_of c.loop-i.first pin)) c.get.ensures)
