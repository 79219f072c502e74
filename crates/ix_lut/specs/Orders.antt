-- The order of lists of lines.
use Rattle.std.specs.Prelude.{◌≡◌, ◌<◌, ◌⊎◌, List, ◌∷◌}
use Rattle.ix_lut.specs.Places.{LineNumber}

-- the first list comes before the other, compared item by item
abbrev pub IsBefore : List LineNumber → List LineNumber → Type 0
IsBefore (a ∷ rest) (b ∷ others) = (a < b) ⊎ ((a ≡ b) × IsBefore rest others)
IsBefore _ _ = ⊥
