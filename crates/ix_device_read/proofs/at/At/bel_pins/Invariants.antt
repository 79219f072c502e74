use Rattle.std.proofs.Common.{◌≡◌, map, drop}
use Rattle.ix_frame.specs.Views.{numbers_of}
use Rattle.ix_message.specs.Names.{the_number}
use Rattle.ix_device_read.specs.Finish.{below, each_alone}
use Rattle.ix_device_read.specs.Views.{kind_word, field_word}
use Rattle.ix_device_read.proofs.Each.{behind_some}
use Rattle.ix_device_read.proofs.at.At.bel_pins.Given as goal

abbrev pub invariant-loop-i : goal.invariant-loop-i
invariant-loop-i l = behind_some (map the_number l.found) (each_alone (below l.walk l.self.kind (kind_word l.self.kind) (field_word l.self.kind l.field) l.self.scope.bel_pins) (drop l.i (numbers_of l.list)))
    ≡ each_alone (below l.walk l.self.kind (kind_word l.self.kind) (field_word l.self.kind l.field) l.self.scope.bel_pins) (numbers_of l.list)
