use Rattle.std.proofs.Common.{◌≡◌, length}
use Rattle.ix_hierarchy.specs.Hierarchy.{Path}
use Rattle.ix_joined.specs.Joining.{Known}
use Rattle.ix_open_inputs.specs.Joinings.{IsGiven}
use Rattle.ix_open_inputs.proofs.Marks.{AreOpenTo}
use Rattle.ix_open_inputs.proofs.joining.open_inputs.Given as goal

abbrev pub invariant-loop-input : goal.invariant-loop-input
invariant-loop-input l = (length l.open ≡ 6) × ((known : Known) (path : Path)
    → IsGiven known l.rec l.constants l.joined l.states l.instance path
    → AreOpenTo known l.rec path l.inputs l.open l.input)
