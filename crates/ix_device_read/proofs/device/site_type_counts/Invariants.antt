use Rattle.std.proofs.Common.{◌≡◌, ◌-◌, ◌++◌, map}
use Rattle.ix_frame.specs.Views.{elements_of}
use Rattle.ix_message.specs.Device.{tile_type}
use Rattle.ix_schema.specs.Said.{said, each_said}
use Rattle.ix_device_read.specs.Sizes.{site_type_count}
use Rattle.ix_device_read.proofs.device.site_type_counts.Given as goal

abbrev pub invariant-loop-i : goal.invariant-loop-i
invariant-loop-i l = l.counts ++ map site_type_count (each_said (said tile_type) ((elements_of l.list).count - l.i) (elements_of l.list) l.i)
    ≡ map site_type_count (each_said (said tile_type) (elements_of l.list).count (elements_of l.list) 0)
