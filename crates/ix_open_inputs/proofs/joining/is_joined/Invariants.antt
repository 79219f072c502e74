use Rattle.std.proofs.Common.{◌≤◌, ◌<◌, ℕ}
use Rattle.ix_hierarchy.specs.Hierarchy.{Path}
use Rattle.ix_joined.specs.Joining.{Known}
use Rattle.ix_open_inputs.specs.Joinings.{IsGiven}
use Rattle.ix_open_inputs.proofs.Nets.{IsPassedRow}
use Rattle.ix_open_inputs.proofs.joining.is_joined.Given as goal

abbrev pub invariant-loop-place : goal.invariant-loop-place
invariant-loop-place l = (known : Known) (path : Path)
    → IsGiven known l.rec l.constants l.joined l.states l.instance path → (k : ℕ) → l.start ≤ k
    → k < l.place → IsPassedRow known l.rec l.joined l.states l.instance l.name k
