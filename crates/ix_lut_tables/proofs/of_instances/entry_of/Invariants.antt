use Rattle.std.proofs.Common.{◌≡◌, None, take, nat_eq}
use Rattle.std.specs.List.{position}
use Rattle.ix_lut_tables.proofs.of_instances.entry_of.Given as goal

abbrev pub invariant-loop-i : goal.invariant-loop-i
invariant-loop-i l = position (λ e. nat_eq e.key l.key) (take l.i l.properties.entries) ≡ None
