use Rattle.std.proofs.Common.{subst, Some}
use Rattle.ix_check.specs.Wrong.{TellsWrong}
use Rattle.ix_check.proofs.Telling.{accepted, refused, still_derived}
use Rattle.ix_check.proofs.check.check_netlist.Goals as goal

pub first_wrong-requires-clause-device : goal.first_wrong-requires-clause-device
first_wrong-requires-clause-device c = c.devices_stay_named.ensures c.args.names.now
    c.fill_tables_on.new.names c.args.device.now c.fill_tables_on.ensures.keeps c.requires.device

pub first_wrong-requires-clause-named : goal.first_wrong-requires-clause-named
first_wrong-requires-clause-named c = c.flats_stay_named.ensures.named c.args.names.now
    c.fill_tables_on.new.names c.args.flat.now c.fill_tables_on.ensures.keeps c.requires.named

pub returns-in-None-clause-verdict : goal.returns-in-None-clause-verdict
returns-in-None-clause-verdict c = (
  accepted c.args.level c.fill_tables_on.new.names c.args.device.now c.args.phys
      c.in_ok-completed.completed c.args.flat.now c.in_ok-completed.ensures.completed
      (subst (TellsWrong c.args.level c.fill_tables_on.new.names c.args.device.now
      c.in_ok-completed.completed c.args.flat.now) c.in-None.is c.in_ok-first_wrong.ensures),
  still_derived c.args.names.now c.fill_tables_on.new.names c.args.device.now c.args.phys
      c.is_derived-derived.result c.fill_tables_on.ensures.keeps c.requires.sound.named
      c.is_derived-derived.ensures,
)

pub returns-clause-verdict : goal.returns-clause-verdict
returns-clause-verdict c = refused c.args.level c.fill_tables_on.new.names c.args.device.now
    c.args.phys c.in_ok-completed.completed c.args.flat.now c.in_ok-completed.ensures.completed
    c.in-Some.rule c.in-Some.place
    (subst (TellsWrong c.args.level c.fill_tables_on.new.names c.args.device.now
    c.in_ok-completed.completed c.args.flat.now) c.in-Some.is c.in_ok-first_wrong.ensures)
