use Rattle.std.proofs.Common.{sym}
use Rattle.ix_device.specs.Sources.{is_source}
use Rattle.ix_device.proofs.Walks.{any_at, none_next}
use Rattle.ix_device.proofs.constants.a_source_stands.Goals as goal

pub returns-then-is_source : goal.returns-then-is_source
returns-then-is_source c = sym (any_at (is_source c.args.rec.now c.args.c) c.args.sources.now c.loop-i.i c.at.result.now c.at.ensures (sym c.if-is_source.ensures))

pub loop-i-preserved : goal.loop-i-preserved
loop-i-preserved c = none_next (is_source c.args.rec.now c.args.c) c.args.sources.now c.loop-i.i c.at.result.now c.at.ensures c.loop-i.invariant (sym c.if-is_source.ensures)
