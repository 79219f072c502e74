use Rattle.std.proofs.Common.{rules, sym, subst}
use Rattle.ix_keys.specs.Keys.{AllDiffer}
use Rattle.ix_keys.proofs.KeyLemmas.{AllDiffer-with_key}
use Rattle.ix_keys.proofs.keys.Keys.add.Goals as goal

differ_after : (c : goal.In_ok-new) → AllDiffer c.insert_full.new.self.keys
differ_after c = subst AllDiffer (sym c.in_ok-new.ensures.keys) (AllDiffer-with_key c.self.inside.keys.keys c.args.key c.self.invariant.differ)

pub invariant_of-self-2 : goal.invariant_of-self-2
invariant_of-self-2 c = record { few = search rules; differ = differ_after c }

pub returns-clause-differ : goal.returns-clause-differ
returns-clause-differ c = differ_after c
