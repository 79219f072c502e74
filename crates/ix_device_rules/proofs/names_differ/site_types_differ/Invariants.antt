use Rattle.std.proofs.Common.{◌≡◌, take, map, Ok}
use Rattle.ix_device_rules.specs.Rules
use Rattle.ix_device_rules.specs.Walks.{Walks}
use Rattle.ix_device_rules.specs.Named.{site_type_key}
use Rattle.ix_device_rules.proofs.names_differ.site_types_differ.Given as goal

abbrev pub invariant-loop-i : goal.invariant-loop-i
invariant-loop-i l =
    record {
      walked : Walks {X = Unit {0}} (Rules.each_by_earlier Rules.site_type_names (take l.i l.types)) l.fn.walk (Ok tt) l.walk;
      names_are : l.names ≡ map site_type_key (take l.i l.types);
    }
