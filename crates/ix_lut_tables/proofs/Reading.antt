-- What a LUT cell's table is, by the place of its property.
use Rattle.std.proofs.Common.{◌≡◌, ◌∙◌, ap, sym, ℕ, List, None, Some, Option, option_map}
use Rattle.std.proofs.Common.{option_and_then, nat_eq, slice_get, length}
use Rattle.ix_message.specs.Shape.{Text}
use Rattle.ix_rec.specs.declared.device.LutCell.{LutCell}
use Rattle.ix_rec.specs.declared.flow.TruthTable.{TruthTable}
use Rattle.ix_rec.specs.declared.netlist.CellInstance.{CellInstance}
use Rattle.ix_rec.specs.declared.netlist.Entry.{Entry}
use Rattle.ix_hierarchy.specs.FlatDesign.{init_number, init_value, table_of}
use Rattle.ix_lut_tables.specs.Tables.{entry_place}
use Rattle.ix_lut_tables.proofs.Places.{find_place}

abbrev pub of_inputs : (inputs bits : ℕ) → TruthTable
of_inputs inputs bits = record { bits = bits; inputs = inputs }

value_at : (entries : List Entry) (key : ℕ) → init_value entries key
    ≡ option_map (λ e. e.value) (option_and_then (slice_get entries) (entry_place entries key))
value_at entries key = ap (option_map (λ e. e.value)) (find_place (λ e. nat_eq e.key key) entries)

pub no_table : (names : List Text) (lut : LutCell) (inst : CellInstance)
    → entry_place inst.prop_map.entries lut.init_param ≡ None → table_of names lut inst ≡ None
no_table names lut inst none =
    let entries = inst.prop_map.entries in let inputs = length lut.input_pins in
    ap (λ v. option_map (of_inputs inputs) (option_and_then (init_number names inputs) v))
    (value_at entries lut.init_param
    ∙ ap (λ p. option_map (λ e. e.value) (option_and_then (slice_get entries) p)) none)

pub a_table : (names : List Text) (lut : LutCell) (inst : CellInstance) (place : ℕ) (e : Entry)
    → entry_place inst.prop_map.entries lut.init_param ≡ Some place
    → slice_get inst.prop_map.entries place ≡ Some e → (inputs : ℕ)
    → inputs ≡ length lut.input_pins → (bits : Option ℕ)
    → bits ≡ init_number names inputs e.value
    → table_of names lut inst ≡ option_map (of_inputs inputs) bits
a_table names lut inst place e at is inputs many bits read =
    let entries = inst.prop_map.entries in
    ap (λ n. option_map (of_inputs n)
    (option_and_then (init_number names n) (init_value entries lut.init_param))) (sym many)
    ∙ ap (λ v. option_map (of_inputs inputs) (option_and_then (init_number names inputs) v))
    (value_at entries lut.init_param
    ∙ ap (λ p. option_map (λ e. e.value) (option_and_then (slice_get entries) p)) at
    ∙ ap (option_map (λ e. e.value)) is)
    ∙ ap (option_map (of_inputs inputs)) (sym read)
