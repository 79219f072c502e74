use Rattle.std.proofs.Common.{ap, ◌∙◌, ◌++◌, map}
use Rattle.ix_device.specs.Lookups.{sites_from}
use Rattle.ix_device.specs.Tables.{entry_told, told_in}
use Rattle.ix_device.proofs.Walks.{at_place}
use Rattle.ix_device.proofs.SiteLemmas.{type_within, sites_fit, one_more_tile}
use Rattle.ix_device.proofs.sites.site_entries.Goals as goal

pub loop-i-init : goal.loop-i-init
unfolding sites_from
loop-i-init c = ap (map entry_told) c.new-entries.ensures

pub at-ty-requires : goal.at-ty-requires
at-ty-requires c =
    type_within c.args.rec.now.tile_type_list c.at-tile.result.now.ty c.at-tile.result.now.sites (at_place _ c.args.rec.now.tile_list c.loop-i.i c.at-tile.result.now c.requires.tiles c.at-tile.ensures)

pub add_sites-requires : goal.add_sites-requires
add_sites-requires c =
    sites_fit c.args.rec.now.tile_type_list c.at-tile.result.now.ty c.at-tile.result.now.sites c.at-ty.result.now (at_place _ c.args.rec.now.tile_list c.loop-i.i c.at-tile.result.now c.requires.tiles c.at-tile.ensures) c.at-ty.ensures

pub loop-i-preserved : goal.loop-i-preserved
loop-i-preserved c =
    c.in_ok-add_sites.ensures
    ∙ ap (λ n. map entry_told c.loop-i.entries ++ map (told_in n c.at-ty.result.now) c.at-tile.result.now.sites) (c.new.ensures ∙ c.in_ok-number.ensures)
    ∙ one_more_tile c.args.rec.now c.loop-i.i c.at-tile.result.now c.at-ty.result.now (map entry_told c.loop-i.entries) c.at-tile.ensures c.at-ty.ensures c.loop-i.invariant
