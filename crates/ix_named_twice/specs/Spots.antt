-- The places of cells and of signal nets, by their numbers.
use Rattle.std.specs.Prelude.{◌++◌, ℕ, List, length, map, Option, MatchOption, is_some, Bool, true}
use Rattle.std.specs.Prelude.{false}
use Rattle.std.specs.List.{filter}
use Rattle.ix_rec.specs.declared.flow.FlatCell.{FlatCell}
use Rattle.ix_rec.specs.declared.netlist.NetlistRec.{NetlistRec}
use Rattle.ix_hierarchy.specs.Walk.{Spot, TopBit, InstanceAt, IsBefore}
use Rattle.ix_hierarchy.specs.Nets.{Occurrence, spot_of}
use Rattle.ix_hierarchy.specs.FlatDesign.{LeafCell, port_type}
use Rattle.ix_joined.specs.Joining.{TopPlace, top_places}
use Rattle.ix_second_names.specs.Seconds.{IsFirstSecond, NoneSecond}

-- a bit of the top that is a cell
abbrev pub has_cell : TopPlace → Bool
has_cell at = is_some (port_type at.dir)

abbrev pub spot_at : TopPlace → Spot
spot_at at = TopBit at.place at.index

abbrev pub spot_in : LeafCell → Spot
spot_in leaf = InstanceAt leaf.path

abbrev pub cell_spots : NetlistRec → List LeafCell → List Spot
cell_spots design leaves =
    map spot_at (filter has_cell (top_places design)) ++ map spot_in leaves

abbrev pub net_spots : List Occurrence → List Spot
net_spots nets = map spot_of nets

-- of two places the one is the earlier, or the other
abbrev pub IsEarlier : Bool → Spot → Spot → Type 0
IsEarlier true one other = IsBefore one other
IsEarlier false one other = IsBefore other one

abbrev pub names_of : List FlatCell → List ℕ
names_of cells = map (λ cell. cell.name) cells

-- the first place of these names whose name stands before it
abbrev pub FindsSecond : List ℕ → Option ℕ → Type 0
FindsSecond names found =
    MatchOption found (NoneSecond names (length names)) (IsFirstSecond names)
