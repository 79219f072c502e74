use Rattle.std.proofs.Common.{◌≡◌, ◌≤◌, ◌*◌, take}
use Rattle.ix_lut.specs.Items.{items_of}
use Rattle.ix_lut.proofs.items.find_items.Given as goal

abbrev pub invariant-loop-u : goal.invariant-loop-u
invariant-loop-u l = record {
  items : take l.items.count l.items.items ≡ items_of l.uses l.u;
  count : l.items.count ≤ 6 * l.u;
}
