use Rattle.std.proofs.Common.{◌∙◌, Some, None, length}
use Rattle.ix_table_keys.specs.Places.{key_of}
use Rattle.ix_table_keys.proofs.Found.{read_by_name}
use Rattle.ix_table_keys.proofs.Keyed.{no_table, told_by, key_there}
use Rattle.ix_table_keys.proofs.tables.TableKeys.bits.Goals as goal

pub returns-in-None : goal.returns-in-None
returns-in-None c = record {
  table = no_table c.args.names.now c.args.phys.now c.in-Some.ensures.differ c.args.site
      c.args.element c.name.result.now c.as_str.result.now c.name.ensures.text
      (c.as_str.ensures.value ∙ c.in_ok-write_key.ensures) c.in-Some.name c.in-Some.ensures.text
      (read_by_name key_of c.args.phys.now.properties (length c.args.names.now) c.in-Some.name
      c.get.result c.args.self.now.properties None c.requires.tables c.in-Some.ensures.within
      c.get.ensures c.in-None.ensures);
}

pub returns-in-Some-get : goal.returns-in-Some-get
returns-in-Some-get c = record {
  table = told_by c.args.names.now c.args.phys.now c.in-Some.ensures.differ c.args.site
      c.args.element c.name.result.now c.as_str.result.now c.name.ensures.text
      (c.as_str.ensures.value ∙ c.in_ok-write_key.ensures) c.in-Some.name c.in-Some.ensures.text
      c.requires.named c.in-Some-get.place c.at.result.now c.at.ensures
      (key_there c.args.phys.now.properties c.in-Some.name c.in-Some-get.place c.at.result.now
      (read_by_name key_of c.args.phys.now.properties (length c.args.names.now) c.in-Some.name
      c.get.result c.args.self.now.properties (Some c.in-Some-get.place) c.requires.tables
      c.in-Some.ensures.within c.get.ensures c.in-Some-get.ensures) c.at.ensures)
      c.name-in-Some-get.result.now c.name-in-Some-get.ensures.text c.table_bits_of.result
      c.table_bits_of.ensures;
}
