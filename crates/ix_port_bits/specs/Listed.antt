-- The rows of a cell as its nets name them, one after another.
use Rattle.std.specs.Prelude.{◌+◌, ℕ, List, [], ◌∷◌, ◌++◌, map, Bool, true, false, not}
use Rattle.std.specs.Prelude.{if◌then◌else◌}
use Rattle.std.specs.List.{filter}
use Rattle.ix_rec.specs.declared.netlist.Cell.{Cell}
use Rattle.ix_rec.specs.declared.netlist.Net.{Net}
use Rattle.ix_rec.specs.declared.netlist.PortInstance.{PortInstance}
use Rattle.ix_rec.specs.declared.netlist.PortOwner.{PortOwner}
use Rattle.ix_rec.specs.declared.netlist.PortOwner.TheVariants.{ExtPort, Inst}
use Rattle.ix_hierarchy.specs.declared.row.Row.{Row}
use Rattle.ix_hierarchy.specs.Nets.{index_of, is_own}
use Rattle.ix_hierarchy.specs.Lists.{IsOwnRow, IsOuterRow}

abbrev pub owner_number : PortOwner → ℕ
owner_number ExtPort = 0
owner_number (Inst instance) = instance

-- the row of a bit that a net names
abbrev pub row_of : (net : ℕ) → PortInstance → Row
row_of net named = record {
  instance = owner_number named.owner;
  port = named.port;
  index = index_of named.bus named.idx;
  net = net;
}

-- whether the row is wanted, among the own ones or the others
abbrev pub is_wanted : (own : Bool) → PortInstance → Bool
is_wanted own named = if own then is_own named.owner else not (is_own named.owner)

abbrev pub named_rows : (own : Bool) → (net : ℕ) → List PortInstance → List Row
named_rows own net named = map (row_of net) (filter (is_wanted own) named)

abbrev pub net_rows : (own : Bool) → (first : ℕ) → List Net → List Row
net_rows own first [] = []
net_rows own first (net ∷ nets) =
    named_rows own first net.port_insts ++ net_rows own (first + 1) nets

-- what rows are told of a cell
abbrev pub IsRow : (own : Bool) → Cell → Row → Type 0
IsRow true cell row = IsOwnRow cell row
IsRow false cell row = IsOuterRow cell row
