-- The way to the first leaf of unknown type.
use Rattle.std.specs.Prelude.{ℕ, List}
use Rattle.ix_rec.specs.declared.device.DeviceRec.{DeviceRec}
use Rattle.ix_rec.specs.declared.netlist.NetlistRec.{NetlistRec}
use Rattle.ix_hierarchy.specs.Hierarchy.{Path}
use Rattle.ix_hierarchy.specs.Walk.{InstanceAt, IsFirst}
use Rattle.ix_hierarchy.specs.Broken.{BreaksN9}
use Rattle.ix_flat_texts.specs.Ways.{IsWayTo}

-- the first leaf that breaks N9 is at the end of the way
pub record IsFirstUnknown (device : DeviceRec) (design : NetlistRec) (way : List ℕ) : Type 0 where
  pub path : Path
  pub first : IsFirst (BreaksN9 device design) (InstanceAt path)
  pub way_is : IsWayTo design path way
