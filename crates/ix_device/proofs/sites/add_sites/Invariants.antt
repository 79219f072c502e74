use Rattle.std.proofs.Common.{◌≡◌, ◌++◌, map, take}
use Rattle.ix_device.specs.Tables.{entry_told, told_in}
use Rattle.ix_device.proofs.sites.add_sites.Given as goal

abbrev pub invariant-loop-i : goal.invariant-loop-i
invariant-loop-i l = map entry_told l.entries ≡ map entry_told l.initial.entries ++ map (told_in l.tile l.ty) (take l.i l.sites)
