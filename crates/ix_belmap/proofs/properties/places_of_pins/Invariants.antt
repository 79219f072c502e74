use Rattle.std.proofs.Common.{◌≡◌, ℕ, take, nat_eq}
use Rattle.std.specs.List.{position}
use Rattle.ix_keys.specs.Keys.{name_key}
use Rattle.ix_first.specs.First.{value_at}
use Rattle.ix_belmap.proofs.properties.places_of_pins.Given as goal

abbrev pub invariant-loop-i : goal.invariant-loop-i
invariant-loop-i l = (name : ℕ) → value_at l.places (name_key name) ≡ position
    (λ p. nat_eq p.package_pin name) (take l.i l.pins)
