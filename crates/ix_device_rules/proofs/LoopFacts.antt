-- What loops keep.
use Rattle.std.proofs.Common.{◌≡◌, ◌≤◌, ◌^◌, ℕ, List, length, take, Ok}
use Rattle.std.specs.List.{sum_by}
use Rattle.ix_rec.specs.declared.device.DeviceRec.{DeviceRec}
use Rattle.ix_device_rules.specs.Rules.{each_by_earlier, tile_is_small, count_in_tile, directed_pips}
use Rattle.ix_message.specs.Indexes.{Step}
use Rattle.ix_keys.specs.declared.key.Key.{Key}
use Rattle.ix_device_rules.specs.Walks.{Walks}
use Rattle.ix_device_rules.specs.Tables.{SameKeys}

-- all of these steps fit, and the table has the keys of what they asked
pub record Asked (steps : List Step) (before now : List ℕ) (keys table : List Key) : Type 0 where
  pub walked : Walks {X = Unit {0}} steps before (Ok tt) now
  pub table_is : SameKeys table keys

-- the tiles up to one have so many wires and directed PIPs
pub record Counted (rec : DeviceRec) (i : ℕ) (before now : List ℕ) (wires pips : ℕ) : Type 0 where
  pub walked : Walks {X = Unit {0}} (each_by_earlier (tile_is_small rec) (take i rec.tile_list)) before (Ok tt) now
  pub wires_are : wires ≡ sum_by (count_in_tile (λ ty. length ty.wires) rec) (take i rec.tile_list)
  pub pips_are : pips ≡ sum_by (count_in_tile directed_pips rec) (take i rec.tile_list)
  pub few_wires : wires ≤ 2 ^ 28
  pub few_pips : pips ≤ 2 ^ 29
