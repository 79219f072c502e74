use Rattle.std.proofs.Common.{sym, slice_get, unwrap_or, false}
use Rattle.ix_device.proofs.Walks.{any_at, none_next}
use Rattle.ix_device.proofs.constants.a_tile_lists.Goals as goal

pub returns-then-is_of_listed : goal.returns-then-is_of_listed
returns-then-is_of_listed c = sym (any_at (λ t. unwrap_or (slice_get c.args.lists.now t.ty) false) c.args.tiles.now c.loop-i.i c.at.result.now c.at.ensures (sym c.if-is_of_listed.ensures))

pub loop-i-preserved : goal.loop-i-preserved
loop-i-preserved c = none_next (λ t. unwrap_or (slice_get c.args.lists.now t.ty) false) c.args.tiles.now c.loop-i.i c.at.result.now c.at.ensures c.loop-i.invariant (sym c.if-is_of_listed.ensures)
