use Rattle.std.proofs.Common.{◌∙◌, ap, Some, option_and_then}
use Rattle.ix_legal.specs.TableKeys.{table_bits}
use Rattle.ix_fill_tables.proofs.properties.table_property.Goals as goal

pub returns-clause-tells : goal.returns-clause-tells
returns-clause-tells c = record {
  site_text = c.name.result.now;
  site_is = c.add-2.ensures.keeps c.args.site c.name.result.now
      (c.add.ensures.keeps c.args.site c.name.result.now c.name.ensures.text);
  key_is = c.add-2.ensures.keeps c.in_ok-key.key c.as_str.result.now c.in_ok-key.ensures.text
      ∙ ap Some (c.as_str.ensures.value ∙ c.in_ok-write_key.ensures);
  value_is = ap (option_and_then table_bits) (c.in_ok-value.ensures.text
      ∙ ap Some c.as_str-2.ensures.value) ∙ c.in_ok-write_bits.ensures;
}
