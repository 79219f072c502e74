-- Which nodes of a graph are of a constant, and which cell types stand for one.
use Rattle.std.specs.Prelude.{List, length, slice_get, Bool, true, false, nat_eq, Option, Some}
use Rattle.std.specs.Prelude.{None, option_and_then, if◌then◌else◌}
use Rattle.std.specs.List.{filter, range_with_len}
use Rattle.ix_num.specs.Numbers.{NameNumber, NodeNumber}
use Rattle.ix_num.specs.declared.resource.Constant.{Constant}
use Rattle.ix_num.specs.declared.resource.Constant.TheVariants.{Gnd, Vcc}
use Rattle.ix_rec.specs.declared.device.Constants.{Constants}
use Rattle.ix_rec.specs.declared.device.DeviceRec.{DeviceRec}
use Rattle.ix_graph.specs.Graph.{Graph}

-- the constant of a node, where there are the node and its constant, is this one
abbrev pub is_constant_of : Constant → Option (Option Constant) → Bool
is_constant_of Gnd (Some (Some Gnd)) = true
is_constant_of Vcc (Some (Some Vcc)) = true
is_constant_of c other = false

-- a node is of this constant
abbrev pub is_of_constant : Constant → Graph → NodeNumber → Bool
is_of_constant c graph n = is_constant_of c (slice_get graph.constants n)

-- the nodes of a constant, by rising number
abbrev pub constant_nodes : Constant → Graph → List NodeNumber
constant_nodes c graph = filter (is_of_constant c graph) (range_with_len 0 (length graph.firsts))

-- the constant for which cells of the type of this name stand; a type that stands for both is gnd's
abbrev pub constant_of_type : (cell : NameNumber) → Constants → Option Constant
constant_of_type cell c = if nat_eq c.gnd_cell_type cell then Some Gnd
    else if nat_eq c.vcc_cell_type cell then Some Vcc
    else None

-- and in a device, which may have none
abbrev pub constant_of_cell : DeviceRec → (cell : NameNumber) → Option Constant
constant_of_cell rec cell = option_and_then (constant_of_type cell) rec.constants
