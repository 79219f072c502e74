-- The names and the types of cells.
use Rattle.std.specs.Prelude.{◌≡◌, ◌++◌, ℕ, List, [], ◌∷◌}
use Rattle.std.specs.Prelude.{map, codes, slice_get, Option, Some, None}
use Rattle.ix_message.specs.Shape.{Text}
use Rattle.ix_rec.specs.declared.flow.FlatCell.{FlatCell}
use Rattle.ix_rec.specs.declared.netlist.NetlistRec.{NetlistRec}
use Rattle.ix_rec.specs.declared.netlist.Port.{Port}
use Rattle.ix_hierarchy.specs.Hierarchy.{written}
use Rattle.ix_hierarchy.specs.FlatDesign.{cell_texts, port_type}
use Rattle.ix_joined.specs.Joining.{TopPlace}

-- the cells have these names and types
abbrev pub AreCells : List Text → List FlatCell → List (Text × Text) → Type 0
AreCells names cells texts = map (cell_texts names) cells ≡ map (λ t. Some t) texts

abbrev pub named_as : Option Text → Text → List (Text × Text)
named_as None text = []
named_as (Some ty) text = (text, ty) ∷ []

-- the cell of a port's bit, where it has one
abbrev pub port_cell : List Text → Port → (index : ℕ) → List (Text × Text)
port_cell names port index =
    named_as (port_type port.dir) (codes "$port/" ++ written names port index)

-- the same by a place of the top
abbrev pub place_cell : List Text → NetlistRec → TopPlace → List (Text × Text)
place_cell names design at = of (slice_get design.port_list at.number)
  where
    of : Option Port → List (Text × Text)
    of None = []
    of (Some port) = port_cell names port at.index
