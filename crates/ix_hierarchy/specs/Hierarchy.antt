-- The hierarchy of a logical netlist: which cells stand inside which, from the top down.
use Rattle.std.specs.Prelude.{◌≡◌, ℕ, ◌+◌, ◌-◌, min, max, List, [], ◌∷◌, ◌++◌, map, nat_eq}
use Rattle.std.specs.Prelude.{slice_get, slice_index_or, Option, Some, None, IsSome, option_map}
use Rattle.std.specs.Prelude.{option_and_then, unwrap_or, codes}
use Rattle.std.specs.Fmt.{decimal}
use Rattle.std.specs.List.{find}
use Rattle.ix_message.specs.Shape.{Text}
use Rattle.ix_rec.specs.declared.netlist.Cell.{Cell}
use Rattle.ix_rec.specs.declared.netlist.CellInstance.{CellInstance}
use Rattle.ix_rec.specs.declared.netlist.NetlistRec.{NetlistRec}
use Rattle.ix_rec.specs.declared.netlist.Port.{Port}
use Rattle.ix_rec.specs.declared.netlist.PortKind.{PortKind}
use Rattle.ix_rec.specs.declared.netlist.PortKind.TheVariants.{Bit, Bus}

-- places in the netlist's lists of declarations and of ports
abbrev pub DeclarationNumber : Type 0
DeclarationNumber = ℕ

abbrev pub PortNumber : Type 0
PortNumber = ℕ

-- The way from the top to an instance: in each cell on it the place, in the cell's list of
-- instances, at which it goes on. The top itself is at the empty path.
abbrev pub Path : Type 0
Path = List ℕ

-- the inside of a declaration; one without it is a leaf, or an empty top
abbrev pub inside : NetlistRec → DeclarationNumber → Option Cell
inside design declaration = find (λ cell. nat_eq cell.index declaration) design.cell_list

abbrev pub child_of : NetlistRec → Cell → (place : ℕ) → Option CellInstance
child_of design cell place =
    option_and_then (slice_get design.inst_list) (slice_get cell.insts place)

-- the instance at a place inside an instance
abbrev pub child : NetlistRec → CellInstance → (place : ℕ) → Option CellInstance
child design parent place =
    option_and_then (λ cell. child_of design cell place) (inside design parent.cell)

-- the instances on a path below an instance, from the first down to the path's own
unfoldable pub along : NetlistRec → CellInstance → Path → Option (List CellInstance)
along design from [] = Some []
along design from (place ∷ path) = option_and_then
    (λ inst. option_map (λ rest. inst ∷ rest) (along design inst path)) (child design from place)

-- the instance at the end of a path below an instance
unfoldable pub reached : NetlistRec → CellInstance → Path → Option CellInstance
reached design from [] = Some from
reached design from (place ∷ path) =
    option_and_then (λ inst. reached design inst path) (child design from place)

abbrev pub instance_at : NetlistRec → Path → Option CellInstance
instance_at design path = reached design design.top_inst path

abbrev pub IsInstance : NetlistRec → Path → Type 0
IsInstance design path = IsSome (instance_at design path)

-- the inside of the instance at a path
abbrev pub inside_at : NetlistRec → Path → Option Cell
inside_at design path =
    option_and_then (λ inst. inside design inst.cell) (instance_at design path)

-- an instance below the top whose declaration has no inside
pub record IsLeaf (design : NetlistRec) (path : Path) (inst : CellInstance) : Type 0 where
  pub parent : Path
  pub place : ℕ
  pub below : path ≡ parent ++ place ∷ []
  pub is : instance_at design path ≡ Some inst
  pub no_inside : inside design inst.cell ≡ None

-- the ports of a declaration, in its order
abbrev pub ports_of : NetlistRec → DeclarationNumber → List PortNumber
ports_of design declaration = unwrap_or
    (option_map (λ declared. declared.ports) (slice_get design.cell_decls declaration)) []

-- how many bits a port has
abbrev pub bits_of_kind : PortKind → (first last : ℕ) → ℕ
bits_of_kind Bit first last = 1
bits_of_kind Bus first last = max first last - min first last + 1

abbrev pub width : Port → ℕ
width port = bits_of_kind port.kind port.bus_start port.bus_end

-- A bit of a port by its index, from 0: at a bus the bit that `bus_start` names has index 0.
pub record PortBit : Type 0 where
  pub port : PortNumber
  pub index : ℕ

abbrev pub bit_text : PortKind → Text → (index : ℕ) → Text
bit_text Bit name index = name
bit_text Bus name index = name ++ codes "[" ++ decimal index ++ codes "]"

-- the written name of a port bit; names are numbers of a table
abbrev pub written : List Text → Port → (index : ℕ) → Text
written names port index = bit_text port.kind (slice_index_or names port.name []) index

abbrev pub written_bit : List Text → NetlistRec → PortBit → Option Text
written_bit names design bit =
    option_map (λ port. written names port bit.index) (slice_get design.port_list bit.port)

-- names joined by slashes
abbrev pub joined : List Text → Text
joined [] = []
joined (name ∷ []) = name
joined (name ∷ other ∷ names) = name ++ codes "/" ++ joined (other ∷ names)

-- the names of the instances on a path
abbrev pub names_along : List Text → NetlistRec → Path → List Text
names_along names design path = map (λ inst. slice_index_or names inst.name [])
    (unwrap_or (along design design.top_inst path) [])

-- a name inside the instance at a path, from the top
abbrev pub flat_name : List Text → NetlistRec → Path → List Text → Text
flat_name names design path inner = joined (names_along names design path ++ inner)
