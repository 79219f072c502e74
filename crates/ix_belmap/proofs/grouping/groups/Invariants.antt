use Rattle.std.proofs.Common.{◌≡◌, ◌++◌, ◌∷◌, ◌-◌, [], map, not}
use Rattle.std.specs.List.{filter, range_with_len}
use Rattle.ix_belmap.specs.Marks.{is_marked}
use Rattle.ix_belmap.proofs.grouping.groups.Given as goal

-- the groups of port cells, and the cells so far that are in none
abbrev pub invariant-loop-cell : goal.invariant-loop-cell
invariant-loop-cell l =
    l.groups ≡ l.initial.groups ++ map (λ q. q ∷ []) (filter (λ q. not (is_marked l.taken.items q))
    (range_with_len l.flat.ports (l.cell - l.flat.ports)))
