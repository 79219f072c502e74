use Rattle.std.proofs.Common.{◌≡◌, ◌<◌, ◌+◌, ℕ, length, take}
use Rattle.ix_device.specs.PinsListed.{pins_listed}
use Rattle.ix_pin_maps.specs.Marks.{pin_under, first_pin, AreOlder}
use Rattle.ix_pin_maps.proofs.marks.put_pins.Given as goal

abbrev pub invariant-loop-i : goal.invariant-loop-i
invariant-loop-i l = record {
  pins : (name : ℕ) → name < length l.marks → pin_under l.turn l.marks name
      ≡ first_pin (take l.i (pins_listed l.pins)) name;
  older : AreOlder (l.turn + 1) l.marks;
}
