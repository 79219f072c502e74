use Rattle.std.proofs.Common.{take}
use Rattle.std.specs.List.{flat_map}
use Rattle.ix_frame.specs.Views.{elements_of}
use Rattle.ix_schema.specs.Said.{said, each_said}
use Rattle.ix_device_read.specs.Loose.{loose_texts, Knows}
use Rattle.ix_device_read.proofs.intern.add_list.Given as goal

abbrev pub invariant-loop-i : goal.invariant-loop-i
invariant-loop-i g l = Knows (flat_map (loose_texts g.T.HasTexts.form) (take l.i (each_said (said g.T.HasTexts.form) (elements_of l.l).count (elements_of l.l) 0))) l.fn.names l.names
