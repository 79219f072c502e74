use Rattle.std.proofs.Common.{◌≡◌, ℕ, map, take, is_none}
use Rattle.ix_keys.specs.Keys.{name_key}
use Rattle.ix_first.specs.First.{value_at}
use Rattle.ix_device_rules.specs.Rules.{is_new}
use Rattle.ix_device.specs.Listed.{AreListings}
use Rattle.ix_device.proofs.admissions.listings.Given as goal

abbrev pub invariant-loop-i : goal.invariant-loop-i
invariant-loop-i l = ((q : ℕ) → is_none (value_at l.seen (name_key q)) ≡ is_new (map (λ m. m.cell) (take l.i l.mappings)) q) × AreListings l.types l.table (take l.i l.mappings)
