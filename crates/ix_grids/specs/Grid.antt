-- The edges of a grid, and what its points cost.
use Rattle.std.specs.Prelude.{ℕ, ◌+◌, ◌-◌, ◌*◌, List, [], ◌∷◌, min, Option, Some, None, zero, suc}

-- the edges out of a point: to the right, to the left, down and up
abbrev pub grid_edges : ℕ → ℕ → ℕ → List (ℕ × ℕ)
grid_edges width points p =
    (4 * p, min (p + 1) (points - 1)) ∷ ((4 * p + 1, p - 1)
    ∷ ((4 * p + 2, min (p + width) (points - 1)) ∷ ((4 * p + 3, p - width) ∷ [])))

-- what a point costs, none where it may not be entered
abbrev pub cell_cost : Option ℕ → Option ℕ
cell_cost None = None
cell_cost (Some zero) = None
cell_cost (Some (suc cost)) = Some (suc cost)
