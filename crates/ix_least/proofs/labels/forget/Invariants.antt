use Rattle.std.proofs.Common.{◌≡◌, ℕ, ◌<◌}
use Rattle.std.specs.List.{slice_index_or}
use Rattle.ix_least.specs.declared.labels.Slot.{Slot}
use Rattle.ix_least.proofs.labels.forget.Given as goal

abbrev pub invariant-loop-slot : goal.invariant-loop-slot
invariant-loop-slot l = (k : ℕ) (d : Slot) → k < l.slot-index →
    (slice_index_or l.slots k d).search ≡ 0
