use Rattle.std.proofs.Common.{◌≡◌, ◌+◌, drop}
use Rattle.ix_lut.specs.Items.{number_in}
use Rattle.ix_lut.proofs.items.number_of.Given as goal

abbrev pub invariant-loop-i : goal.invariant-loop-i
invariant-loop-i l = number_in l.items l.item ≡ l.i + number_in (drop l.i l.items) l.item
