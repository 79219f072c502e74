-- What it costs a net to enter a node, by negotiated congestion.
use Rattle.std.specs.Prelude.{ℕ, ◌+◌, ◌*◌, ◌^◌, min}
use Rattle.ix_occupy.specs.Steps.{most_hist}

-- the greatest power of two by which the other holders weigh
abbrev pub most_rounds : ℕ
most_rounds = 10

-- the greatest that the other holders add
abbrev pub most_pressure : ℕ
most_pressure = 65535

-- the cost of entering a node in a round, by its history and the number of other nets that hold it:
-- the history counts more with each end at which it was shared, the other holders with each round
unfoldable pub node_cost : (round hist others : ℕ) → ℕ
node_cost round hist others =
    (1 + min hist most_hist) * (1 + min (2 ^ (min round most_rounds) * others) most_pressure)
