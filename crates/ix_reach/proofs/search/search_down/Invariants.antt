use Rattle.ix_reach.specs.State.{state_of}
use Rattle.ix_reach.specs.Searching.{IsSearch, work_of}
use Rattle.ix_reach.proofs.search.search_down.Given as goal

abbrev pub invariant-loop-visit : goal.invariant-loop-visit
invariant-loop-visit l = IsSearch l.rec (state_of l.search)

abbrev pub decreases-loop-visit : goal.decreases-loop-visit
decreases-loop-visit l = work_of l.rec (state_of l.search)
