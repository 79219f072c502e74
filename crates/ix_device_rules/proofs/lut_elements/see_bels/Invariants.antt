use Rattle.std.proofs.Common.{take, map, ◌++◌}
use Rattle.ix_keys.specs.Keys.{key}
use Rattle.ix_device_rules.specs.Tables.{SameKeys}
use Rattle.ix_device_rules.proofs.lut_elements.see_bels.Given as goal

abbrev pub invariant-loop-i : goal.invariant-loop-i
invariant-loop-i l =
    SameKeys l.seen (l.fn.seen ++ map (λ b. key l.parts.name 0 b.name) (take l.i l.element.bels))
