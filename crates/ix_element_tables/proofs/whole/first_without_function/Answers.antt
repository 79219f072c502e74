use Rattle.std.proofs.Common.{subst, length}
use Rattle.ix_element_tables.specs.Least.{IsLeast}
use Rattle.ix_element_tables.proofs.Telling.{all_tabled, first_untabled}
use Rattle.ix_element_tables.proofs.whole.first_without_function.Goals as goal

pub returns-in-None : goal.returns-in-None
returns-in-None c = record {
  told = all_tabled c.args.names.now c.args.device.now c.args.phys.now c.table_is_one.ensures.law
      c.requires.sound.differ (c.args.device.now, c.requires.named)
      (subst (IsLeast c.args.names.now c.args.device.now c.args.phys.now
      (length c.args.phys.now.placements)) c.in-None.is c.first_break.ensures);
}

pub returns : goal.returns
returns c = record {
  told = first_untabled c.args.names.now c.args.device.now c.args.phys.now
      c.table_is_one.ensures.law c.requires.sound.differ (c.args.device.now, c.requires.named)
      c.in-Some.at (subst (IsLeast c.args.names.now c.args.device.now c.args.phys.now
      (length c.args.phys.now.placements)) c.in-Some.is c.first_break.ensures);
}
