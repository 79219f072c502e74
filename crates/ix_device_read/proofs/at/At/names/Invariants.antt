use Rattle.std.proofs.Common.{◌≡◌, ℕ, map, drop}
use Rattle.ix_frame.specs.Views.{numbers_of}
use Rattle.ix_message.specs.Shape.{name}
use Rattle.ix_message.specs.Names.{the_text}
use Rattle.ix_device_read.specs.Finish.{asked_at, each_alone}
use Rattle.ix_device_read.specs.Named.{limit_of, AllNamed}
use Rattle.ix_device_read.specs.Numbers.{name_text}
use Rattle.ix_device_read.specs.Views.{sizes_of, kind_word, field_word}
use Rattle.ix_device_read.proofs.Each.{behind_some}
use Rattle.ix_device_read.proofs.at.At.names.Given as goal

abbrev pub invariant-loop-i : goal.invariant-loop-i
invariant-loop-i l = record {
  is : behind_some (map (λ (id : ℕ). the_text (name_text l.ctx.names.now id)) l.found) (each_alone (asked_at (sizes_of l.ctx (l.self).scope) l.walk (l.self).kind (kind_word (l.self).kind) (field_word (l.self).kind l.field) name) (drop l.i (numbers_of l.list))) ≡ each_alone (asked_at (sizes_of l.ctx (l.self).scope) l.walk (l.self).kind (kind_word (l.self).kind) (field_word (l.self).kind l.field) name) (numbers_of l.list);
  named : AllNamed (limit_of l.ctx) l.found;
}
