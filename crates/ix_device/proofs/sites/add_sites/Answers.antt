use Rattle.std.proofs.Common.{ap, ◌∙◌, map}
use Rattle.ix_device.specs.Tables.{entry_told}
use Rattle.ix_device.proofs.SiteLemmas.{one_more_site}
use Rattle.ix_device.proofs.sites.add_sites.Goals as goal

-- src/sites.rt:33:5
pub loop-i-preserved : goal.loop-i-preserved
loop-i-preserved c = ap (map entry_told) c.in_ok-push.ensures.ok
    ∙ one_more_site c.args.tile c.args.ty.now c.args.sites.now c.loop-i.i c.at-site.result.now c.at.result.now c.loop-i.entries (map entry_told c.args.entries.now) c.at-site.ensures c.at.ensures c.loop-i.invariant
