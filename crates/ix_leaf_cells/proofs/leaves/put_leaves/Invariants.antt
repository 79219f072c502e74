use Rattle.std.proofs.Common.{◌≤◌, ◌+◌, List, length}
use Rattle.ix_message.specs.Shape.{Text}
use Rattle.ix_strings.specs.Names.{KeepsNumbers}
use Rattle.ix_joined.specs.Joining.{Known, IsJoined}
use Rattle.ix_port_cells.specs.CellTexts.{AreCells}
use Rattle.ix_leaf_cells.specs.LeavesTo.{AreTo}
use Rattle.ix_leaf_cells.proofs.leaves.put_leaves.Given as goal

abbrev pub invariant-loop-instance : goal.invariant-loop-instance
invariant-loop-instance l = KeepsNumbers l.fn.names l.names
    × (length l.names + l.left ≤ length l.fn.names + l.fn.left)
    × ((known : Known) (texts : List (Text × Text)) → IsJoined known l.rec l.joined
    → AreCells l.fn.names l.fn.cells.items texts
    → AreTo known l.rec l.names texts l.instance l.leaves.items l.cells.items)
