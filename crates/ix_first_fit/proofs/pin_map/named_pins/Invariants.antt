use Rattle.std.proofs.Common.{◌≡◌, map, take}
use Rattle.ix_first_fit.specs.Netlist.{pin_told, pin_in}
use Rattle.ix_first_fit.proofs.pin_map.named_pins.Given as goal

abbrev pub invariant-loop-i : goal.invariant-loop-i
invariant-loop-i l = map pin_told l.named ≡ map (λ pin. pin_in l.ty l.bel pin) (take l.i l.pins)
