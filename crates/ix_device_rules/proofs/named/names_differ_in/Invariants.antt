use Rattle.std.proofs.Common.{take, map}
use Rattle.ix_keys.specs.Keys.{name_key}
use Rattle.ix_device_rules.specs.Kinds.{kind_name, field_name}
use Rattle.ix_device_rules.specs.Named.{name_is_new}
use Rattle.ix_device_rules.specs.Rules.{each_by_earlier}
use Rattle.ix_device_rules.proofs.LoopFacts.{Asked}
use Rattle.ix_device_rules.proofs.named.names_differ_in.Given as goal

abbrev pub invariant-loop-i : goal.invariant-loop-i
invariant-loop-i g l =
    Asked (each_by_earlier (name_is_new (kind_name l.kind) (field_name l.field) g.T.Named.name_of) (take l.i l.items)) l.fn.walk l.walk (map (λ x. name_key (g.T.Named.name_of x)) (take l.i l.items)) l.names
