use Rattle.std.proofs.Common.{◌≡◌, false, take, slice_get, unwrap_or}
use Rattle.std.specs.List.{list_any}
use Rattle.ix_device.proofs.constants.a_tile_lists.Given as goal

abbrev pub invariant-loop-i : goal.invariant-loop-i
invariant-loop-i l = list_any (λ t. unwrap_or (slice_get l.lists t.ty) false) (take l.i l.tiles) ≡ false
