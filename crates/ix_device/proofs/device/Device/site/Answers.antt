use Rattle.std.proofs.Common.{ap, ◌∙◌}
use Rattle.ix_keys.specs.Keys.{name_key}
use Rattle.ix_first.specs.First.{value_at}
use Rattle.ix_device.specs.Lookups.{site_named}
use Rattle.ix_device.proofs.SiteLemmas.{site_by_name}
use Rattle.ix_device.proofs.device.Device.site.Goals as goal

pub returns-clause-site : goal.returns-clause-site
returns-clause-site c =
    c.get-2.ensures ∙ ap (value_at c.self.inside.tables.sites) (c.of_name.ensures ∙ ap name_key c.get.ensures) ∙ c.self.invariant.tables_are.sites c.args.name
    ∙ site_by_name c.self.inside.rec c.self.inside.tables.entries c.args.name c.self.invariant.tables_are.entries ∙ ap (λ r. site_named r c.args.name) c.self.view_is
