use Rattle.ix_device_rules.specs.Named.{site_is_new}
use Rattle.ix_device_rules.specs.Rules
use Rattle.ix_device_rules.proofs.Steps.{walks_then, walks_stop}
use Rattle.ix_device_rules.proofs.names_differ.tile_differs.Goals as goal

pub returns-in-Ok-clause-walks : goal.returns-in-Ok-clause-walks
returns-in-Ok-clause-walks c = walks_then c.in-Ok.ensures c.sites_differ.ensures.walks

pub returns-in-Err-clause-walks : goal.returns-in-Err-clause-walks
returns-in-Err-clause-walks c = walks_stop (Rules.each_by_earlier (site_is_new c.args.site_names.now) c.args.tile.now.sites) _ c.in-Err.ensures
