use Rattle.std.proofs.Common.{◌≡◌, ◌≤◌, take}
use Rattle.std.specs.Prelude.{count_by}
use Rattle.ix_joined.specs.Joining.{AreTopBits, Known}
use Rattle.ix_flat_lists.specs.Listed.{ArePortNames}
use Rattle.ix_flat_pins.specs.Items.{Adds, IsPinOfPort, IsReady, Parts, is_typed}
use Rattle.ix_flat_pins.proofs.ports.put_ports.Given as goal

abbrev pub invariant-loop-k : goal.invariant-loop-k
invariant-loop-k l = record {
  cell_is : l.cell ≡ count_by (is_typed l.types) (take l.k l.bits);
  few : l.cell ≤ l.k;
  adds : (known : Known) (parts : Parts)
      → IsReady known l.rec l.joined l.constants l.states l.numbers parts
      → AreTopBits l.rec l.joined.instances.items known.paths l.joined.firsts.items l.bits
      → ArePortNames known.names l.types
      → Adds known l.rec parts (IsPinOfPort l.rec l.types l.bits l.k) l.initial.items.items l.items.items;
}
