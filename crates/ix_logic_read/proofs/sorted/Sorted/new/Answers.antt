use Rattle.std.proofs.Common.{sym}
use Rattle.std.specs.Prelude.{◌==◌}
use Rattle.std.proofs.lemmas.List.Sorted.{IsNonDecreasingBy-from_sort, list_any-IsPermutation}
use Rattle.ix_logic_read.proofs.sorted.Sorted.new.Goals as goal

pub invariant_of-result : goal.invariant_of-result
invariant_of-result c = IsNonDecreasingBy-from_sort (λ x. x) _ c.sort_unstable.ensures.sorted

pub returns : goal.returns
returns c n = sym (list_any-IsPermutation (λ k. k == n) _ _ c.sort_unstable.ensures.permutation)
