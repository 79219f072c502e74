use Rattle.std.proofs.Common.{◌≡◌, ◌-◌, map}
use Rattle.std.specs.List.{AllByRecursion}
use Rattle.ix_frame.specs.Views.{elements_of}
use Rattle.ix_schema.specs.Said.{said, each_said}
use Rattle.ix_device_read.specs.Finish.{finish_at, finish_each}
use Rattle.ix_device_read.specs.Named.{limit_of}
use Rattle.ix_device_read.specs.Views.{sizes_of}
use Rattle.ix_device_read.proofs.Each.{behind_front}
use Rattle.ix_device_read.proofs.take.take_list.Given as goal

abbrev pub invariant-loop-i : goal.invariant-loop-i
invariant-loop-i g l = record {
  is : behind_front (map (g.T.Take.record_by l.ctx.names.now) l.found) (finish_each (finish_at g.T.Take.shape (sizes_of l.ctx l.scope)) (each_said (said g.T.Take.shape) ((elements_of l.l).count - l.i) (elements_of l.l) l.i) l.walk)
      ≡ finish_each (finish_at g.T.Take.shape (sizes_of l.ctx l.scope)) (each_said (said g.T.Take.shape) (elements_of l.l).count (elements_of l.l) 0) l.fn.walk;
  named : AllByRecursion (g.T.Take.named (limit_of l.ctx)) l.found;
}
