-- How far nodes reach over the rows and columns of tiles.
use Rattle.std.specs.Prelude.{ℕ, ◌+◌, ◌-◌, max, min, List, [], ◌∷◌, map}
use Rattle.std.specs.List.{fold, filter_map}
use Rattle.ix_num.specs.Numbers.{NodeNumber}
use Rattle.ix_rec.specs.declared.device.DeviceRec.{DeviceRec}
use Rattle.ix_device.specs.Lookups.{row_and_column}
use Rattle.ix_graph.specs.Nodes.{wires_of_node}

-- the greatest of these numbers less the least
abbrev pub extent : List ℕ → ℕ
extent [] = 0
extent (x ∷ xs) = fold max x xs - fold min x xs

-- the row and the column of the tile of each wire of a node
abbrev pub places_of_node : DeviceRec → NodeNumber → List (ℕ × ℕ)
places_of_node rec n = filter_map (λ w. row_and_column rec w.0) (wires_of_node rec n)

-- half the perimeter of the box of these rows and columns
abbrev pub half_perimeter : List (ℕ × ℕ) → ℕ
half_perimeter places = extent (map (λ p. p.0) places) + extent (map (λ p. p.1) places)

-- the span of a node
abbrev pub span : DeviceRec → NodeNumber → ℕ
span rec n = half_perimeter (places_of_node rec n)

-- the greatest of these numbers, 0 of none
abbrev pub greatest : List ℕ → ℕ
greatest xs = fold max 0 xs
