use Rattle.std.proofs.Common.{◌≡◌, ◌≤◌, ◌+◌, take}
use Rattle.ix_lut.specs.Items.{with_items}
use Rattle.ix_lut.proofs.items.add_cell.Given as goal

abbrev pub invariant-loop-input : goal.invariant-loop-input
invariant-loop-input l = record {
  items : take l.items.count l.items.items
      ≡ with_items (take l.fn.items.count l.fn.items.items) l.cell.nets l.input;
  count : l.items.count ≤ l.fn.items.count + l.input;
}
