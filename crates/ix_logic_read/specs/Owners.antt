-- What is known of the owner of a port that a net joins, while the netlist is read.
use Rattle.std.specs.Prelude.{◌≡◌, ℕ, true, slice_index}
use Rattle.std.specs.List.{All}
use Rattle.ix_message.specs.Indexes.{Lists, entry_at, has_number, ports_of_declaration}
use Rattle.ix_rec.specs.declared.netlist.Cell.{Cell}
use Rattle.ix_rec.specs.declared.netlist.Net.{Net}
use Rattle.ix_rec.specs.declared.netlist.PortInstance.{PortInstance}
use Rattle.ix_rec.specs.declared.netlist.PortOwner.{PortOwner}
use Rattle.ix_rec.specs.declared.netlist.PortOwner.TheVariants.{ExtPort, Inst}

-- the declaration of an owner in a cell with this declaration of its own
abbrev pub owned_by : Lists → (own : ℕ) → PortOwner → ℕ
owned_by l own ExtPort = own
owned_by l own (Inst i) = slice_index (entry_at l.instance_list i).row 1

pub record HasOwner (l : Lists) (own : ℕ) (p : PortInstance) : Type 0 where
  pub has : has_number (ports_of_declaration l (owned_by l own p.owner)) p.port ≡ true

abbrev pub HaveOwners : Lists → (own : ℕ) → Net → Type 0
HaveOwners l own n = All (HasOwner l own) n.port_insts

abbrev pub AllHaveOwners : Lists → Cell → Type 0
AllHaveOwners l c = All (HaveOwners l c.index) c.nets
