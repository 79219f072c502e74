use Rattle.std.proofs.Common.{◌≡◌, ◌<◌, ◌^◌, ◌++◌, map, take}
use Rattle.std.specs.List.{AllByRecursion}
use Rattle.ix_frame.specs.Views.{numbers_of}
use Rattle.ix_logic_read.specs.Pins.{pin_number}
use Rattle.ix_logic_read.proofs.pins.add_ports.Given as goal

abbrev pub invariant-loop-i : goal.invariant-loop-i
invariant-loop-i l = record {
  adds : l.held.items ≡ l.fn.held.items ++ map (pin_number l.decl) (take l.i (numbers_of l.ports));
  below : AllByRecursion (λ p. p < 2 ^ 32) (take l.i (numbers_of l.ports));
}
