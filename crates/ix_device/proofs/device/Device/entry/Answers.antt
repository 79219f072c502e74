use Rattle.std.proofs.Common.{ap, sym, subst, ◌∙◌, ◌<◌, length, slice_get}
use Rattle.ix_device.specs.Lookups.{name_of_site, tile_of_site, type_of_site, place_of_site}
use Rattle.ix_device.proofs.Inside.{type_is_there}
use Rattle.ix_device.proofs.SiteLemmas.{tells}
use Rattle.ix_device.proofs.device.Device.entry.Goals as goal

pub returns-clause-name : goal.returns-clause-name
returns-clause-name c =
    ap (λ r. name_of_site r c.args.site) (sym c.self.view_is)
    ∙ (tells c.self.inside.rec c.self.inside.tables.entries c.args.site c.at.result.now c.self.invariant.tables_are.entries (ap (slice_get c.self.inside.tables.entries) (sym c.get.ensures) ∙ c.at.ensures)).name

pub returns-clause-tile : goal.returns-clause-tile
returns-clause-tile c =
    ap (λ r. tile_of_site r c.args.site) (sym c.self.view_is)
    ∙ (tells c.self.inside.rec c.self.inside.tables.entries c.args.site c.at.result.now c.self.invariant.tables_are.entries (ap (slice_get c.self.inside.tables.entries) (sym c.get.ensures) ∙ c.at.ensures)).tile

pub returns-clause-ty : goal.returns-clause-ty
returns-clause-ty c =
    ap (λ r. type_of_site r c.args.site) (sym c.self.view_is)
    ∙ (tells c.self.inside.rec c.self.inside.tables.entries c.args.site c.at.result.now c.self.invariant.tables_are.entries (ap (slice_get c.self.inside.tables.entries) (sym c.get.ensures) ∙ c.at.ensures)).ty

pub returns-clause-place : goal.returns-clause-place
returns-clause-place c =
    ap (λ r. place_of_site r c.args.site) (sym c.self.view_is)
    ∙ (tells c.self.inside.rec c.self.inside.tables.entries c.args.site c.at.result.now c.self.invariant.tables_are.entries (ap (slice_get c.self.inside.tables.entries) (sym c.get.ensures) ∙ c.at.ensures)).place

pub returns-clause-inside : goal.returns-clause-inside
returns-clause-inside c =
    subst (λ r. c.at.result.now.ty < length r.site_type_list) c.self.view_is
    (type_is_there c.self.inside.rec c.self.invariant.fits c.args.site c.at.result.now.ty
    (tells c.self.inside.rec c.self.inside.tables.entries c.args.site c.at.result.now c.self.invariant.tables_are.entries (ap (slice_get c.self.inside.tables.entries) (sym c.get.ensures) ∙ c.at.ensures)).ty)
