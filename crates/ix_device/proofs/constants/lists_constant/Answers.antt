use Rattle.std.proofs.Common.{sym}
use Rattle.ix_device.specs.Sources.{lists_here}
use Rattle.ix_device.proofs.Walks.{any_at, none_next}
use Rattle.ix_device.proofs.constants.lists_constant.Goals as goal

pub returns-then-lists_here : goal.returns-then-lists_here
returns-then-lists_here c = sym (any_at (lists_here c.args.c) c.args.ty.now.constants c.loop-i.i c.at.result.now c.at.ensures (sym c.if-lists_here.ensures))

pub loop-i-preserved : goal.loop-i-preserved
loop-i-preserved c = none_next (lists_here c.args.c) c.args.ty.now.constants c.loop-i.i c.at.result.now c.at.ensures c.loop-i.invariant (sym c.if-lists_here.ensures)
