-- Counts by name.
use Rattle.std.specs.Prelude.{ℕ, unwrap_or, nat_eq}
use Rattle.std.specs.HashMap.{get}
use Rattle.ix_device.specs.declared.counts.Counts.{Counts}

-- how many were counted under a name
abbrev pub count_at : Counts → ℕ → ℕ
count_at c name = unwrap_or (get nat_eq c.counts name) 0
