use Rattle.std.proofs.Common.{◌∷◌, [], take}
use Rattle.std.specs.List.{flat_map}
use Rattle.ix_frame.specs.Views.{text_elements}
use Rattle.ix_schema.specs.Said.{texts_said}
use Rattle.ix_device_read.specs.Loose.{Knows}
use Rattle.ix_device_read.proofs.intern.add_each.Given as goal

abbrev pub invariant-loop-i : goal.invariant-loop-i
invariant-loop-i l = Knows (flat_map (λ t. t ∷ []) (take l.i (texts_said (text_elements l.l).count (text_elements l.l) 0))) l.fn.names l.names
