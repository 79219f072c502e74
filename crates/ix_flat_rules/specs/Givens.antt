-- What is known where each rule is asked.
use Rattle.std.specs.Prelude.{◌≡◌, ℕ, List, Option, length, map}
use Rattle.ix_first.specs.declared.by_key.FirstByKey.{FirstByKey}
use Rattle.ix_message.specs.Shape.{Text}
use Rattle.ix_rec.specs.declared.device.Constants.{Constants}
use Rattle.ix_rec.specs.declared.device.DeviceRec.{DeviceRec}
use Rattle.ix_rec.specs.declared.flow.TruthTable.{TruthTable}
use Rattle.ix_rec.specs.declared.netlist.NetlistRec.{NetlistRec}
use Rattle.ix_hierarchy.specs.FlatDesign.{LeafCell}
use Rattle.ix_hierarchy.specs.Fits.{AreInputsNamed}
use Rattle.ix_joined.specs.declared.joined.Joined.{Joined}
use Rattle.ix_joined.specs.declared.state.NetState.{NetState}
use Rattle.ix_joined.specs.declared.top_bit.TopBit.{TopBit}
use Rattle.ix_joined.specs.Joining.{Known, IsJoined, AreTopBits}
use Rattle.ix_joined.specs.States.{AreNetStates, AreStates}
use Rattle.ix_flat_lists.specs.declared.port_names.PortNames.{PortNames}
use Rattle.ix_flat_lists.specs.Listed.{AreLeaves, ArePortNames}
use Rattle.ix_lut_tables.specs.Tables.{AreLutTypes, table_of_instance}
use Rattle.ix_net_states.specs.Walking.{AreReady}

-- nets and the bits of the top, for N8
pub record AreBitsKnown (known : Known) (names : List Text) (design : NetlistRec)
    (constants : Option Constants) (joined : Joined) (bits : List TopBit) : Type 0 where
  pub names_are : known.names ≡ names
  pub ready : AreReady known design joined constants bits

-- the state of each net, for N3 and N4
pub record AreNetsKnown (known : Known) (names : List Text) (design : NetlistRec)
    (joined : Joined) (states : List NetState) : Type 0 where
  pub names_are : known.names ≡ names
  pub joined_is : IsJoined known design joined
  pub states_are : AreStates known design joined states

-- the cells and the truth tables of instances, for N6
pub record AreTablesKnown (known : Known) (names : List Text) (design : NetlistRec)
    (device : DeviceRec) (types : PortNames) (luts : FirstByKey ℕ) (joined : Joined)
    (bits : List TopBit) (leaves : List ℕ) (tables : List (Option TruthTable)) : Type 0 where
  pub names_are : known.names ≡ names
  pub device_is : device ≡ known.device
  pub joined_is : IsJoined known design joined
  pub types_are : ArePortNames names types
  pub luts_are : AreLutTypes device luts
  pub top : AreTopBits design joined.instances.items known.paths joined.firsts.items bits
  pub cells : List LeafCell
  pub leaves_are : AreLeaves known design leaves cells
  pub tables_are : tables ≡ map (table_of_instance names device design) design.inst_list

-- the inputs of LUT types, and which nets have sinks
pub record AreSinksKnown (known : Known) (names : List Text) (design : NetlistRec)
    (device : DeviceRec) (luts : FirstByKey ℕ) (joined : Joined) (states : List NetState) : Type 0
  where
    pub names_are : known.names ≡ names
    pub device_is : device ≡ known.device
    pub luts_are : AreLutTypes device luts
    pub inputs_named : AreInputsNamed (length names) device
    pub many : length states ≡ length joined.firsts.items
    pub states_are : AreNetStates known design joined states

-- with the leaves, for N7
pub record AreInputsKnown (known : Known) (names : List Text) (design : NetlistRec)
    (device : DeviceRec) (luts : FirstByKey ℕ) (joined : Joined) (states : List NetState)
    (leaves : List ℕ) : Type 0 where
  pub joined_is : IsJoined known design joined
  pub sinks_are : AreSinksKnown known names design device luts joined states
  pub cells : List LeafCell
  pub leaves_are : AreLeaves known design leaves cells
