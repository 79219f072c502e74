use Rattle.std.proofs.Common.{◌≡◌, Some}
use Rattle.ix_num.specs.Numbers.{NameNumber}
use Rattle.ix_legal.specs.Sites.{type_at}
use Rattle.ix_walk.specs.Firsts.{AllFit}
use Rattle.ix_named_there.specs.Parts.{PinIsNamed}
use Rattle.ix_named_there.proofs.placements.has_pins.Given as goal

abbrev pub invariant-loop-i : goal.invariant-loop-i
invariant-loop-i l = (site : NameNumber) → type_at l.device site ≡ Some l.t
    → AllFit (λ i. PinIsNamed l.device site) l.pin_map l.i
