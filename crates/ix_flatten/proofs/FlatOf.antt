-- The flat design of what was listed.
use Rattle.std.proofs.Common.{◌≡◌, ap, sym, subst, ◌∙◌, ℕ, List, length, Option, None}
use Rattle.std.specs.FinMap.{FinMap, get}
use Rattle.std.proofs.lemmas.List.{length-map}
use Rattle.std.specs.Ordering.{nat_cmp}
use Rattle.ix_rec.specs.declared.device.DeviceRec.{DeviceRec}
use Rattle.ix_rec.specs.declared.flow.Flat.{Flat}
use Rattle.ix_rec.specs.declared.flow.FlatCell.{FlatCell}
use Rattle.ix_rec.specs.declared.flow.FlatNet.{FlatNet}
use Rattle.ix_rec.specs.declared.flow.TruthTable.{TruthTable}
use Rattle.ix_rec.specs.declared.netlist.NetlistRec.{NetlistRec}
use Rattle.ix_hierarchy.specs.FlatDesign.{IsFlatOf}
use Rattle.ix_joined.specs.declared.state.NetState.{NetState}
use Rattle.ix_joined.specs.declared.top_bit.TopBit.{TopBit}
use Rattle.ix_joined.specs.Joining.{AreTopBits, Known}
use Rattle.ix_joined.specs.States.{AreNetStates, AreStates}
use Rattle.ix_flat_nets.specs.Nets.{AreFlatNets, IsReady}
use Rattle.ix_wiring.specs.declared.wiring.Wiring.{Wiring}
use Rattle.ix_lut_tables.specs.Tables.{table_of_instance}
use Rattle.ix_flatten.specs.declared.listing.Listed.{Listed}
use Rattle.ix_flatten.specs.Stages.{AreCellTables, AreLeafTables, IsBuilt}
use Rattle.ix_flatten.proofs.Leaves.{leaf_tables, tables_same}

-- what is known before the nets are made
abbrev pub is_ready : (known : Known) (device : DeviceRec) (design : NetlistRec)
    (listed : Listed) (tables : List (Option TruthTable)) (bits : List TopBit)
    (states : List NetState) → IsBuilt known device design listed tables
    → bits ≡ listed.bits.items → states ≡ listed.states.items
    → IsReady known design listed.joined device.constants listed.types bits states listed.named
is_ready known device design listed tables bits states is same_bits same_states = record {
  joined_is = is.is_listed.joined_is;
  keeps = is.is_judged.keeps.0.0;
  constants_are = ap (λ (d : DeviceRec). d.constants) (sym is.device_is);
  types_are = is.is_listed.types_are;
  bits_are = subst (λ bs. AreTopBits design listed.joined.instances.items known.paths
      listed.joined.firsts.items bs) (sym same_bits) is.is_listed.top;
  states_are = subst (λ ss. AreStates known design listed.joined ss) (sym same_states)
      is.is_listed.by_number;
  net_states_are = subst (λ ss. AreNetStates known design listed.joined ss) (sym same_states)
      is.is_listed.by_net;
  named_is = is.is_listed.named_is;
}

-- each leaf's instance has its table
pub tables_there : (known : Known) (device : DeviceRec) (design : NetlistRec) (listed : Listed)
    (tables : List (Option TruthTable)) → IsBuilt known device design listed tables
    → AreLeafTables listed.joined listed.named.leaves.items (length tables)
tables_there known device design listed tables is =
    leaf_tables known design listed.joined listed.named.leaves.items is.is_listed.named_is.leaves
    (length tables) is.is_listed.joined_is is.is_listed.named_is.are_leaves
    (ap length is.is_judged.tables_are
    ∙ length-map design.inst_list (table_of_instance known.names known.device design))

-- with these maps
abbrev pub flat_with : (ports : ℕ) → Wiring → (of_cells : FinMap nat_cmp TruthTable)
    → (fixed : FinMap nat_cmp ℕ) → List FlatCell → List FlatNet → Flat
flat_with ports wiring of_cells fixed cells nets = record {
  cells = cells;
  ports = ports;
  nets = nets;
  pins = wiring.pins;
  tables = of_cells;
  fixed = fixed;
}

flat_is : (known : Known) (device : DeviceRec) (design : NetlistRec) (listed : Listed)
    (tables : List (Option TruthTable)) (wiring : Wiring)
    (of_cells : FinMap nat_cmp TruthTable) (fixed : FinMap nat_cmp ℕ)
    → (is : IsBuilt known device design listed tables)
    → AreFlatNets known design is.is_listed.named_is.leaves is.is_listed.named_is.nets
    listed.named.ports wiring
    → AreCellTables listed.joined listed.named.ports listed.named.leaves.items tables of_cells
    → ((cell : ℕ) → get fixed cell ≡ None)
    → IsFlatOf known.device known.names design (flat_with listed.named.ports wiring of_cells fixed
    listed.named.cells.items wiring.nets.items)
flat_is known device design listed tables wiring of_cells fixed is made of_leaves none =
    let named = is.is_listed.named_is in record {
      leaves = named.leaves;
      are_leaves = named.are_leaves.are;
      signals = named.nets;
      are_signals = named.are_nets.are;
      cells = named.cells;
      ports = named.ports;
      nets_count = made.nets_count;
      net_names = made.net_names;
      drivers = made.drivers;
      pins = made.pins;
      all_pins = made.all_pins;
      all_nets = made.all_nets;
      no_port_tables = of_leaves.none;
      tables = λ k. of_leaves.each k ∙ tables_same known design listed.joined
          listed.named.leaves.items named.leaves tables k is.is_listed.joined_is
          named.are_leaves is.is_judged.tables_are;
      none_fixed = none;
    }

pub flat_of : (known : Known) (device : DeviceRec) (design : NetlistRec) (listed : Listed)
    (tables : List (Option TruthTable)) (wiring : Wiring)
    (of_cells : FinMap nat_cmp TruthTable) (fixed : FinMap nat_cmp ℕ) (cells : List FlatCell)
    (nets : List FlatNet) → (is : IsBuilt known device design listed tables)
    → AreFlatNets known design is.is_listed.named_is.leaves is.is_listed.named_is.nets
    listed.named.ports wiring
    → AreCellTables listed.joined listed.named.ports listed.named.leaves.items tables of_cells
    → ((cell : ℕ) → get fixed cell ≡ None) → cells ≡ listed.named.cells.items
    → nets ≡ wiring.nets.items
    → IsFlatOf device known.names design
    (flat_with listed.named.ports wiring of_cells fixed cells nets)
flat_of known device design listed tables wiring of_cells fixed cells nets is made of_leaves none
    same_cells same_nets =
    let now = (λ (cs : List FlatCell) (ns : List FlatNet).
    flat_with listed.named.ports wiring of_cells fixed cs ns) in
    subst (λ (d : DeviceRec). IsFlatOf d known.names design (now cells nets)) is.device_is
    (subst (λ (cs : List FlatCell). IsFlatOf known.device known.names design (now cs nets))
    (sym same_cells)
    (subst (λ (ns : List FlatNet). IsFlatOf known.device known.names design
    (now listed.named.cells.items ns)) (sym same_nets)
    (flat_is known device design listed tables wiring of_cells fixed is made of_leaves none)))
