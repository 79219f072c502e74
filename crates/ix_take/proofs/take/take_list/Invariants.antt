use Rattle.std.specs.List.{All}
use Rattle.ix_frame.specs.Views.{elements_of}
use Rattle.ix_schema.specs.Said.{said}
use Rattle.ix_take.proofs.Lists.{TakenUpTo}
use Rattle.ix_take.proofs.take.take_list.Given as goal

abbrev pub invariant-loop-i : goal.invariant-loop-i
invariant-loop-i g l = record {
  taken : TakenUpTo g.T.Take.structs (said g.T.Take.shape) (g.T.Take.asks l.ctx)
      (g.T.Take.made l.ctx) (g.T.Take.record_by l.ctx)
      (elements_of l.l) l.fn.walk l.i l.found l.walk;
  named : All (g.T.Take.named l.ctx) l.found;
}
