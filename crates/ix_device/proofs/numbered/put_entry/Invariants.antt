use Rattle.std.proofs.Common.{[], ◌++◌, take, nat_eq, if◌then◌else◌}
use Rattle.ix_device_rules.specs.Rules.{elements_for}
use Rattle.ix_device.specs.Numbered.{HasElements}
use Rattle.ix_device.proofs.numbered.put_entry.Given as goal

abbrev pub invariant-loop-k : goal.invariant-loop-k
invariant-loop-k l = HasElements l.entries (λ ty. elements_for ty (take l.i l.entries) ++ (if nat_eq l.entry.site ty then take l.k l.entry.luts else [])) l.table
