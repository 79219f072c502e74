-- What is known of a listed design where each rule is asked.
use Rattle.std.proofs.Common.{◌≡◌, refl, sym, subst, List, Option, length, map, ℕ}
use Rattle.ix_first.specs.declared.by_key.FirstByKey.{FirstByKey}
use Rattle.ix_message.specs.Shape.{Text}
use Rattle.ix_rec.specs.declared.device.DeviceRec.{DeviceRec}
use Rattle.ix_rec.specs.declared.flow.TruthTable.{TruthTable}
use Rattle.ix_rec.specs.declared.netlist.NetlistRec.{NetlistRec}
use Rattle.ix_rec.specs.declared.place.Rule.{Rule}
use Rattle.ix_hierarchy.specs.Broken.{IsBroken}
use Rattle.ix_hierarchy.specs.Fits.{AreInputsNamed}
use Rattle.ix_asked.specs.declared.fault.DesignFault.{DesignFault}
use Rattle.ix_asked.specs.declared.fault.DesignFault.TheVariants.{Broken, Memory}
use Rattle.ix_asked.specs.Faults.{IsDesignFault, IsTold}
use Rattle.ix_joined.specs.declared.state.NetState.{NetState}
use Rattle.ix_joined.specs.declared.top_bit.TopBit.{TopBit}
use Rattle.ix_joined.specs.Joining.{AreTopBits, Known}
use Rattle.ix_joined.specs.States.{AreNetStates, AreStates}
use Rattle.ix_flat_lists.specs.Listed.{AreLeaves}
use Rattle.ix_lut_tables.specs.Tables.{AreLutTypes, table_of_instance}
use Rattle.ix_flat_rules.specs.Givens.{AreBitsKnown, AreInputsKnown, AreNetsKnown}
use Rattle.ix_flat_rules.specs.Givens.{AreTablesKnown}
use Rattle.ix_flatten.specs.declared.listing.Listed.{Listed}
use Rattle.ix_flatten.specs.Stages.{AreListed}

-- what is told is the fault
pub told : (names : List Text) (rec : DeviceRec) (design : NetlistRec) (rule : Rule)
    (text : Text) (fault : DesignFault) → IsBroken names rec design rule text
    → IsTold rule text fault → IsDesignFault names rec design fault
told names rec design rule text (Broken other word) is h =
    subst (λ r. IsBroken names rec design r word) (sym h.0)
    (subst (λ (w : Text). IsBroken names rec design rule w) (sym h.1) is)
told names rec design rule text Memory is h = tt

abbrev pub known_of : (names : List Text) (device : DeviceRec) (design : NetlistRec)
    (listed : Listed) → AreListed names device design listed → Known
known_of names device design listed is =
    record { names = names; device = device; paths = is.0 }

-- for N8
pub bits_known : (names : List Text) (device : DeviceRec) (design : NetlistRec)
    (listed : Listed) (bits : List TopBit) → (is : AreListed names device design listed)
    → bits ≡ listed.bits.items
    → AreBitsKnown (known_of names device design listed is) names design device.constants
    listed.joined bits
bits_known names device design listed bits is same = record {
  names_are = refl;
  ready = record {
    are = is.1.joined_is;
    constants_are = refl;
    top = subst (λ bs. AreTopBits design listed.joined.instances.items is.0
        listed.joined.firsts.items bs) (sym same) is.1.top;
  };
}

-- for N3 and N4
pub nets_known : (names : List Text) (device : DeviceRec) (design : NetlistRec)
    (listed : Listed) (states : List NetState) → (is : AreListed names device design listed)
    → states ≡ listed.states.items
    → AreNetsKnown (known_of names device design listed is) names design listed.joined states
nets_known names device design listed states is same = record {
  names_are = refl;
  joined_is = is.1.joined_is;
  states_are = subst (λ ss. AreStates (known_of names device design listed is) design
      listed.joined ss) (sym same) is.1.by_number;
}

-- for N6
pub tables_known : (names : List Text) (device : DeviceRec) (design : NetlistRec)
    (listed : Listed) (luts : FirstByKey ℕ) (bits : List TopBit) (leaves : List ℕ)
    (tables : List (Option TruthTable)) → (is : AreListed names device design listed)
    → AreLutTypes device luts → bits ≡ listed.bits.items → leaves ≡ listed.named.leaves.items
    → tables ≡ map (table_of_instance names device design) design.inst_list
    → AreTablesKnown (known_of names device design listed is) names design device listed.types
    luts listed.joined bits leaves tables
tables_known names device design listed luts bits leaves tables is types same same_leaves are =
    record {
      names_are = refl;
      device_is = refl;
      joined_is = is.1.joined_is;
      types_are = is.1.types_are;
      luts_are = types;
      top = subst (λ bs. AreTopBits design listed.joined.instances.items is.0
          listed.joined.firsts.items bs) (sym same) is.1.top;
      cells = is.1.named_is.leaves;
      leaves_are = subst (λ ls. AreLeaves (known_of names device design listed is) design ls
          is.1.named_is.leaves) (sym same_leaves) is.1.named_is.are_leaves;
      tables_are = are;
    }

-- for N7
pub inputs_known : (names : List Text) (device : DeviceRec) (design : NetlistRec)
    (listed : Listed) (luts : FirstByKey ℕ) (states : List NetState) (leaves : List ℕ)
    → (is : AreListed names device design listed) → AreInputsNamed (length names) device
    → AreLutTypes device luts → states ≡ listed.states.items
    → leaves ≡ listed.named.leaves.items
    → AreInputsKnown (known_of names device design listed is) names design device luts
    listed.joined states leaves
inputs_known names device design listed luts states leaves is inputs types same same_leaves =
    let known = known_of names device design listed is in record {
      joined_is = is.1.joined_is;
      sinks_are = record {
        names_are = refl;
        device_is = refl;
        luts_are = types;
        inputs_named = inputs;
        many = subst (λ (ss : List NetState). length ss ≡ length listed.joined.firsts.items)
            (sym same) is.1.by_number.many;
        states_are = subst (λ ss. AreNetStates known design listed.joined ss) (sym same)
            is.1.by_net;
      };
      cells = is.1.named_is.leaves;
      leaves_are = subst (λ ls. AreLeaves known design ls is.1.named_is.leaves)
          (sym same_leaves) is.1.named_is.are_leaves;
    }
