use Rattle.std.proofs.Common.{◌+◌, ◌-◌, ◌*◌, length}
use Rattle.std.specs.List.{All}
use Rattle.ix_frame.specs.Sound.{endless}
use Rattle.ix_frame.specs.Views.{elements_of}
use Rattle.ix_message.specs.Indexes.{only_table}
use Rattle.ix_message.specs.Phys.{segment}
use Rattle.ix_message.specs.Shape.{preorder}
use Rattle.ix_schema.specs.Said.{branches_said}
use Rattle.ix_phys_write.specs.Record.{IsSegmentNamed}
use Rattle.ix_rec.specs.Forest.{IsPreorder}
use Rattle.ix_take.specs.Views.{table_of}
use Rattle.ix_phys_read.proofs.Stacks.{Taken}
use Rattle.ix_phys_read.proofs.branches.take_branches.Given as goal

abbrev pub invariant-loop-top : goal.invariant-loop-top
invariant-loop-top l = record {
  taken : Taken l.ctx.names.now (table_of l.ctx) (only_table (length (table_of l.ctx)))
      (branches_said segment (elements_of l.l) endless) l.fn.walk l.stack.items l.found l.walk;
  named : All (IsSegmentNamed l.ctx.names.now) l.found;
  preorder : IsPreorder l.found;
}

abbrev pub decreases-loop-top : goal.decreases-loop-top
decreases-loop-top l = 2 * (length (preorder 0 (branches_said segment (elements_of l.l) endless)) -
    length l.found) + length l.stack.items
