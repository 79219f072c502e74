use Rattle.std.proofs.Common.{◌≡◌, ◌≤◌, ◌∷◌, length, take}
use Rattle.ix_belmap.specs.Marks.{Knows, free_of}
use Rattle.ix_belmap.proofs.marks.gathered.Given as goal

-- the free cells so far
abbrev pub invariant-loop-i : goal.invariant-loop-i
invariant-loop-i l =
    (l.group.items ≡ l.fn.port ∷ free_of l.device l.flat l.taken.items l.port_type
    (take l.i l.row.items))
    × (length l.group.items ≤ 9) × Knows l.device l.known
