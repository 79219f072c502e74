use Rattle.ix_device_rules.proofs.PartLemmas.{Filled, bel_part, bel_name}
use Rattle.ix_device_rules.proofs.tables.bels_of.Given as goal

abbrev pub invariant-loop-i : goal.invariant-loop-i
invariant-loop-i l =
    Filled (λ t. t.bels) bel_part bel_name l.table l.types l.i
