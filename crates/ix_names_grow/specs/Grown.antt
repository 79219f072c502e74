-- A netlist over a table of names and over a larger one.
use Rattle.std.specs.Prelude.{◌≡◌, ◌≤◌, ℕ, List, [], length, slice_get, slice_index_or, Some}
use Rattle.ix_message.specs.Shape.{Text}
use Rattle.ix_rec.specs.declared.device.DeviceRec.{DeviceRec}
use Rattle.ix_rec.specs.declared.netlist.CellDeclaration.{CellDeclaration}
use Rattle.ix_rec.specs.declared.netlist.NetlistRec.{NetlistRec}
use Rattle.ix_rec.specs.declared.netlist.Port.{Port}
use Rattle.ix_strings.specs.Names.{AllDiffer}
use Rattle.ix_hierarchy.specs.Fits.{NetlistFits}
use Rattle.ix_hierarchy.specs.Hierarchy.{Path, PortBit, flat_name, written, written_bit}
use Rattle.ix_joined.specs.declared.joined.Joined.{Joined}
use Rattle.ix_joined.specs.Joining.{IsJoined}

pub record IsGrown (old new : List Text) (design : NetlistRec) : Type 0 where
  pub longer : length old ≤ length new
  pub fits : NetlistFits (length new) design
  pub flat : (path : Path) (inner : List Text)
      → flat_name old design path inner ≡ flat_name new design path inner
  pub of_port : (number index : ℕ) (port : Port) → slice_get design.port_list number ≡ Some port
      → written old port index ≡ written new port index
  pub of_bit : (bit : PortBit) → written_bit old design bit ≡ written_bit new design bit
  pub of_type : (declaration : ℕ) (declared : CellDeclaration)
      → slice_get design.cell_decls declaration ≡ Some declared
      → slice_index_or old declared.name [] ≡ slice_index_or new declared.name []
  pub joined : (device : DeviceRec) (paths : List Path) (joined : Joined)
      → IsJoined record { names = old; device = device; paths = paths } design joined
      → AllDiffer new
      → IsJoined record { names = new; device = device; paths = paths } design joined
