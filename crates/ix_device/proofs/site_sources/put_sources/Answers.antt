use Rattle.ix_first.specs.First.{value_at}
use Rattle.ix_device.specs.NamedSources.{is_under}
use Rattle.ix_device.proofs.SourceLemmas.{one_more_source}
use Rattle.ix_device.proofs.site_sources.put_sources.Goals as goal

pub loop-i-preserved : goal.loop-i-preserved
loop-i-preserved c =
    λ q. one_more_source (is_under q) c.args.entries.now c.loop-i.i c.at.result.now (value_at c.args.table.now q) (value_at c.loop-i.table q) _ c.at.ensures (c.loop-i.invariant q) (c.in_ok-put_source.ensures q)
