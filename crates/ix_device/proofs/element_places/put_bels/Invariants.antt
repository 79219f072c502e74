use Rattle.std.proofs.Common.{◌≡◌, ℕ, None, take, nat_eq, option_map, if◌then◌else◌}
use Rattle.std.specs.Option.{option_or}
use Rattle.std.specs.List.{position}
use Rattle.ix_keys.specs.Keys.{key}
use Rattle.ix_first.specs.First.{value_at}
use Rattle.ix_device.proofs.element_places.put_bels.Given as goal

abbrev pub invariant-loop-j : goal.invariant-loop-j
invariant-loop-j l =
    (ty bel : ℕ) → value_at l.table (key ty 0 bel)
    ≡ option_or (value_at l.initial.table (key ty 0 bel)) (if nat_eq l.site ty then option_map (λ j. record l.at { place = j }) (position (λ b. nat_eq b.name bel) (take l.j l.bels)) else None)
