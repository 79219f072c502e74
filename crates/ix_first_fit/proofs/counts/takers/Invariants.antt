use Rattle.std.proofs.Common.{◌≡◌, ◌<◌, ℕ, Some, length, slice_get}
use Rattle.ix_device.specs.Lookups.{type_of_site}
use Rattle.ix_first_fit.specs.Spots.{takers_at}
use Rattle.ix_first_fit.proofs.counts.takers.Given as goal

abbrev pub invariant-loop-t : goal.invariant-loop-t
invariant-loop-t l = record { count : length l.all ≡ l.t; told : (site t : ℕ) → t < l.t → type_of_site l.device site ≡ Some t → slice_get l.all t ≡ Some (takers_at l.device l.ty site) }
