use Rattle.std.proofs.Common.{◌≡◌, ◌≤◌, take}
use Rattle.ix_device_rules.specs.Rules
use Rattle.std.specs.List.{sum_by}
use Rattle.std.proofs.Common.{◌*◌}
use Rattle.ix_device_rules.proofs.tiles_are_few.pips_of.Given as goal

abbrev pub invariant-loop-i : goal.invariant-loop-i
invariant-loop-i l =
    (l.count ≡ sum_by (λ p. Rules.directed p.kind p.directional) (take l.i l.tile_type.pips)) × (l.count ≤ 2 * l.i)
