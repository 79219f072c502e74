use Rattle.std.proofs.Common.{take, map, ◌++◌}
use Rattle.ix_device_rules.specs.Rules.{each_by_earlier}
use Rattle.ix_device_rules.specs.Named.{site_key, site_is_new}
use Rattle.ix_device_rules.proofs.LoopFacts.{Asked}
use Rattle.ix_device_rules.proofs.names_differ.sites_differ.Given as goal

abbrev pub invariant-loop-i : goal.invariant-loop-i
invariant-loop-i l =
    Asked (each_by_earlier (site_is_new l.fn.names) (take l.i l.sites)) l.fn.walk l.walk (l.fn.names ++ map site_key (take l.i l.sites)) l.names
