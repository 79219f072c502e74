use Rattle.std.proofs.Common.{◌≡◌, ◌≤◌, ℕ, List, drop, length, slice_get, Some, [], string_bytes}
use Rattle.ix_hierarchy.specs.Hierarchy.{Path, flat_name}
use Rattle.ix_hierarchy.specs.Lists.{AreInstances}
use Rattle.ix_flat_texts.proofs.Named.{head_of}
use Rattle.ix_flat_texts.proofs.texts.path_text.Given as goal

abbrev pub invariant-loop-i : goal.invariant-loop-i
invariant-loop-i l = (l.i ≤ length l.way.items)
    × ((paths : List Path) (nets : ℕ) (path : Path)
    → AreInstances l.rec l.instances paths nets
    → slice_get paths (head_of (drop l.i l.way.items)) ≡ Some path
    → string_bytes l.text ≡ flat_name l.names l.rec path [])

abbrev pub decreases-loop-i : goal.decreases-loop-i
decreases-loop-i l = l.i
