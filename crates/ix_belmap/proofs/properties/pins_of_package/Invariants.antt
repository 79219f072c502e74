use Rattle.std.proofs.Common.{◌≡◌, None, take, nat_eq}
use Rattle.std.specs.List.{find}
use Rattle.ix_belmap.proofs.properties.pins_of_package.Given as goal

abbrev pub invariant-loop-i : goal.invariant-loop-i
invariant-loop-i l = find (λ p. nat_eq p.name l.fn.name) (take l.i l.packages) ≡ None
