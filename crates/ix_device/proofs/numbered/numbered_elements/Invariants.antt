use Rattle.std.proofs.Common.{◌≡◌, ℕ, length, take}
use Rattle.ix_device_rules.specs.Rules.{elements_for}
use Rattle.ix_device.specs.Counts.{count_at}
use Rattle.ix_device.specs.Numbered.{HasElements}
use Rattle.ix_device.proofs.numbered.numbered_elements.Given as goal

abbrev pub invariant-loop-i : goal.invariant-loop-i
invariant-loop-i l = HasElements l.entries (λ ty. elements_for ty (take l.i l.entries)) l.places × ((name : ℕ) → count_at l.counts name ≡ length (elements_for name (take l.i l.entries)))
