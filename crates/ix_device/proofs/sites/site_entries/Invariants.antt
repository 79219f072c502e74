use Rattle.std.proofs.Common.{◌≡◌, map, take}
use Rattle.ix_device.specs.Lookups.{sites_from}
use Rattle.ix_device.specs.Tables.{entry_told, told_of}
use Rattle.ix_device.proofs.sites.site_entries.Given as goal

abbrev pub invariant-loop-i : goal.invariant-loop-i
invariant-loop-i l = map entry_told l.entries ≡ map (told_of l.rec) (sites_from 0 (take l.i l.rec.tile_list))
