-- What the bits of the top are found from.
use Rattle.std.specs.Prelude.{◌≡◌, ℕ, List, length, slice_get, Some}
use Rattle.ix_rec.specs.declared.device.DeviceRec.{DeviceRec}
use Rattle.ix_rec.specs.declared.netlist.NetlistRec.{NetlistRec}
use Rattle.ix_hierarchy.specs.declared.instance.Instance.{Instance}
use Rattle.ix_hierarchy.specs.declared.kind.Kind.{Kind}
use Rattle.ix_hierarchy.specs.Hierarchy.{Path}
use Rattle.ix_hierarchy.specs.Fits.{NetlistFits}
use Rattle.ix_hierarchy.specs.Lists.{AreInstances, AreKinds, AreFirsts, IsOwnRow}
use Rattle.ix_instance_lists.specs.Listed.{AreNumbered}
use Rattle.ix_joined.specs.declared.top_bit.TopBit.{TopBit}
use Rattle.ix_joined.specs.Joining.{IsBitOf, TopPlace}
use Rattle.ix_bit_rows.specs.Table.{RowTable, AreRowsIn}

-- a design's declarations, the bits of cells themselves, its instances, and which occurrences are
-- one net
pub record AreGiven (design : NetlistRec) (device : DeviceRec) (kinds : List Kind)
    (own : RowTable) (all : List Instance) (paths : List Path) (firsts : List ℕ) : Type 0 where
  pub names : ℕ
  pub fits : NetlistFits names design
  pub are_kinds : AreKinds device design kinds
  pub rows : AreRowsIn design IsOwnRow own
  pub are_instances : AreInstances design all paths (length firsts)
  pub numbered : AreNumbered design all paths (length firsts)
  pub are_firsts : AreFirsts design all paths firsts

-- bits place by place
pub record AreBitsOf (design : NetlistRec) (all : List Instance) (paths : List Path)
    (firsts : List ℕ) (places : List TopPlace) (bits : List TopBit) : Type 0 where
  pub many : length bits ≡ length places
  pub each : (k : ℕ) (at : TopPlace) (bit : TopBit) → slice_get places k ≡ Some at
      → slice_get bits k ≡ Some bit → IsBitOf design all paths firsts at bit
