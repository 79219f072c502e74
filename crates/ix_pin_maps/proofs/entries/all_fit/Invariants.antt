use Rattle.std.proofs.Common.{◌≡◌, true, take, option_map}
use Rattle.std.specs.List.{list_all}
use Rattle.ix_pin_maps.specs.Entries.{entry_fits}
use Rattle.ix_pin_maps.proofs.entries.all_fit.Given as goal

abbrev pub invariant-loop-i : goal.invariant-loop-i
invariant-loop-i l = list_all (entry_fits l.on.device.now l.on.ty l.on.bel l.on.turn
    l.on.marks.now (option_map (λ c. c.now) l.lut) l.placement.bel)
    (take l.i l.placement.pin_map) ≡ true
