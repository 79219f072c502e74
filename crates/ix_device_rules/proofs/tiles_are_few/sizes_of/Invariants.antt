use Rattle.std.proofs.Common.{◌≡◌, take, map}
use Rattle.ix_device_rules.specs.Sizes.{size_of}
use Rattle.ix_device_rules.proofs.tiles_are_few.sizes_of.Given as goal

abbrev pub invariant-loop-i : goal.invariant-loop-i
invariant-loop-i l =
    l.sizes ≡ map size_of (take l.i l.types)
