use Rattle.std.proofs.Common.{ℕ, ◌+◌, ◌*◌, ◌^◌, ◌<◌, ◌≤◌, min, arith}
use Rattle.std.proofs.Math.Nat.{mul-le-mul, mul-pos}
use Rattle.ix_occupy.specs.Costs.{node_cost, most_rounds}
use Rattle.ix_occupy.proofs.laws.costs_are_in_range.Goals as goal

-- both factors are 1 at least, and 2^16 at most
factor : (n : ℕ) → 0 < 1 + min n 65535
factor n = omega arith

factor_below : (n : ℕ) → 1 + min n 65535 ≤ 65536
factor_below n = omega arith

pub returns-clause-positive : goal.returns-clause-positive
unfolding node_cost
returns-clause-positive c = λ round hist others. mul-pos (factor hist)
    (factor (2 ^ (min round most_rounds) * others))

pub returns-clause-bounded : goal.returns-clause-bounded
unfolding node_cost
returns-clause-bounded c = λ round hist others. mul-le-mul (factor_below hist)
    (factor_below (2 ^ (min round most_rounds) * others))
