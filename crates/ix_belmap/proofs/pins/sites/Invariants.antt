use Rattle.std.proofs.Common.{◌≡◌, ℕ}
use Rattle.std.specs.FinMap.{get}
use Rattle.ix_belmap.proofs.Failures.{sites_until}
use Rattle.ix_belmap.proofs.pins.sites.Given as goal

abbrev pub invariant-loop-cell : goal.invariant-loop-cell
invariant-loop-cell l = (q : ℕ) → get l.fixed q ≡ sites_until l.all l.cell q
