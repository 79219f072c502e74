use Rattle.std.proofs.Common.{◌≡◌, ◌<◌, ◌+◌, ℕ, length}
use Rattle.ix_legal.specs.Placements.{PinMapFits}
use Rattle.ix_legal.specs.Spots.{AskedOf}
use Rattle.ix_pin_maps.specs.Marks.{AreOlder}
use Rattle.ix_pin_maps.proofs.misfits.first_misfit.Given as goal

abbrev pub invariant-loop-i : goal.invariant-loop-i
invariant-loop-i l = record {
  kept : (k : ℕ) → k < l.i → AskedOf l.phys.placements k (PinMapFits l.device);
  many : length l.marks.items ≡ length l.names;
  older : AreOlder (l.i + 1) l.marks.items;
}
