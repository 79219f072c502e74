use Rattle.std.proofs.Common.{◌≡◌, ◌≤◌}
use Rattle.ix_lut.specs.Items.{count_on, net_at}
use Rattle.ix_lut.proofs.items.item_of.Given as goal

abbrev pub invariant-loop-i : goal.invariant-loop-i
invariant-loop-i l = record {
  counted : l.nth ≡ count_on (net_at l.nets l.input) l.nets l.i;
  few : l.nth ≤ l.i;
}
