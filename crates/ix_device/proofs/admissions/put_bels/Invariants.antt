use Rattle.std.proofs.Common.{◌≡◌, ◌&&◌, take}
use Rattle.std.specs.List.{list_all}
use Rattle.ix_keys.specs.declared.key.Key.{Key}
use Rattle.ix_first.specs.First.{value_at, or_later}
use Rattle.ix_device_rules.specs.Rules.{has_pin}
use Rattle.ix_device.specs.Listed.{listing, names_one}
use Rattle.ix_device.proofs.admissions.put_bels.Given as goal

abbrev pub invariant-loop-i : goal.invariant-loop-i
invariant-loop-i l =
    (q : Key) → value_at l.table q
    ≡ or_later (value_at l.initial.table q) (names_one l.owner l.map.cell (take l.i l.bels) q) (listing l.map.mapping l.map.pin_map (l.map.differ && list_all (λ p. has_pin l.t q.part p.bel_pin) l.pins))
