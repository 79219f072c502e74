use Rattle.std.proofs.Common.{◌∙◌, sym, None, Some}
use Rattle.std.proofs.Common.{length}
use Rattle.ix_hierarchy.specs.Fits.{IsEntryNamed}
use Rattle.ix_lut_tables.proofs.Places.{at_place}
use Rattle.ix_lut_tables.proofs.Reading.{no_table, a_table}
use Rattle.ix_lut_tables.proofs.of_instances.table_of.Goals as goal

pub returns-in_default-clause-table : goal.returns-in_default-clause-table
returns-in_default-clause-table c = sym (no_table c.args.names.now c.args.lut.now
    c.args.instance.now (sym c.entry_of.ensures.place ∙ c.in_default.is))

pub returns-in-Some-2-clause-table : goal.returns-in-Some-2-clause-table
returns-in-Some-2-clause-table c = sym (a_table c.args.names.now c.args.lut.now
    c.args.instance.now c.in-Some.place c.at.result.now
    (sym c.entry_of.ensures.place ∙ c.in-Some.is) c.at.ensures c.len-inputs.result
    c.len-inputs.ensures (Some c.in-Some-2.bits)
    (sym c.in-Some-2.is ∙ c.in_ok-bits.ensures.bits))

pub returns-in-None-clause-table : goal.returns-in-None-clause-table
returns-in-None-clause-table c = sym (a_table c.args.names.now c.args.lut.now
    c.args.instance.now c.in-Some.place c.at.result.now
    (sym c.entry_of.ensures.place ∙ c.in-Some.is) c.at.ensures c.len-inputs.result
    c.len-inputs.ensures None (sym c.in-None.is ∙ c.in_ok-bits.ensures.bits))

pub value_bits-requires-clause-value : goal.value_bits-requires-clause-value
value_bits-requires-clause-value c =
    (at_place (IsEntryNamed (length c.args.names.now)) c.args.instance.now.prop_map.entries
    c.in-Some.place c.at.result.now c.requires.named c.at.ensures).value
