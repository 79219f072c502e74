use Rattle.std.proofs.Common.{◌≡◌, ◌<◌, ℕ, None, Some, slice_get}
use Rattle.ix_rec.specs.declared.flow.FlatNet.{FlatNet}
use Rattle.ix_belmap_cases.proofs.checks.nets_fit.Given as goal

abbrev pub invariant-loop-i : goal.invariant-loop-i
invariant-loop-i l =
    (q : ℕ) (net : FlatNet) → q < l.i → slice_get l.nets q ≡ Some net
    → (net.name < l.names) × (net.driver ≡ None)
