-- Preorder lists of trees, by the depths of their items.
use Rattle.std.specs.Prelude.{ℕ, ◌+◌, ◌≤◌, List, [], ◌∷◌, map}
use Rattle.ix_rec.specs.declared.forest.Branch.{Branch}

-- each depth is at most one more than the one before, and the first at most the limit
abbrev pub StepsWithin : ℕ → List ℕ → Type 0
StepsWithin limit [] = Unit {0}
StepsWithin limit (depth ∷ depths) = (depth ≤ limit) × StepsWithin (depth + 1) depths

-- the greatest depth that may come after these, where the limit is that of the first
abbrev pub limit_after : ℕ → List ℕ → ℕ
limit_after limit [] = limit
limit_after limit (depth ∷ depths) = limit_after (depth + 1) depths

module _ {T : Type 0} where
  abbrev pub depths : List (Branch T) → List ℕ
  depths branches = map (λ b. b.depth) branches

  -- the depths are those of a preorder list of trees: the first is 0, and each next one at most one
  -- more than the one before
  abbrev pub IsPreorder : List (Branch T) → Type 0
  IsPreorder branches = StepsWithin 0 (depths branches)

  -- the greatest depth that the next item may have: 0 where there is none yet, else one more than
  -- the last one's
  abbrev pub next_limit : List (Branch T) → ℕ
  next_limit branches = limit_after 0 (depths branches)
