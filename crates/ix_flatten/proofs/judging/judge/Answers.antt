use Rattle.std.proofs.Common.{◌∙◌}
use Rattle.std.proofs.lemmas.Result.{err_from_is_err_and}
use Rattle.ix_flatten.proofs.Asked.{bits_known, inputs_known, known_of, nets_known, tables_known}
use Rattle.ix_flatten.proofs.judging.judge.Goals as goal

pub returns-in_err-ask_inout-clause-broken : goal.returns-in_err-ask_inout-clause-broken
returns-in_err-ask_inout-clause-broken c =
    let names = c.args.names.now in
    let device = c.args.device.now in
    let design = c.args.rec.now in
    let listed = c.args.listed.now in
    let is = c.requires.listed in
    let known = known_of names device design listed is in
    let bits = bits_known names device design listed c.deref.result.now is c.deref.ensures.value in
    let p = err_from_is_err_and c.from_residual.result c.from_residual.ensures.1 in
    rw (p.1, p.2) (c.in_err-ask_inout.ensures.broken known bits is.1.joined_is.keeps)

pub ask_names-requires-clause-keeps : goal.ask_names-requires-clause-keeps
ask_names-requires-clause-keeps c =
    let names = c.args.names.now in
    let device = c.args.device.now in
    let design = c.args.rec.now in
    let listed = c.args.listed.now in
    let is = c.requires.listed in
    let known = known_of names device design listed is in
    let bits = bits_known names device design listed c.deref.result.now is c.deref.ensures.value in
    c.in_ok-ask_inout.ensures.keeps known bits is.1.joined_is.keeps

pub returns-in_err-ask_one_driver-clause-broken : goal.returns-in_err-ask_one_driver-clause-broken
returns-in_err-ask_one_driver-clause-broken c =
    let names = c.args.names.now in
    let device = c.args.device.now in
    let design = c.args.rec.now in
    let listed = c.args.listed.now in
    let is = c.requires.listed in
    let known = known_of names device design listed is in
    let one = nets_known names device design listed c.deref-2.result.now is c.deref-2.ensures.value
    in
    let p = err_from_is_err_and c.from_residual-in_err-ask_one_driver.result
    c.from_residual-in_err-ask_one_driver.ensures.1 in
    rw (p.1, p.2) (c.in_err-ask_one_driver.ensures.broken known one c.in_ok-ask_names.ensures.keeps)

pub returns-in_err-ask_driver-clause-broken : goal.returns-in_err-ask_driver-clause-broken
returns-in_err-ask_driver-clause-broken c =
    let names = c.args.names.now in
    let device = c.args.device.now in
    let design = c.args.rec.now in
    let listed = c.args.listed.now in
    let is = c.requires.listed in
    let known = known_of names device design listed is in
    let one = nets_known names device design listed c.deref-2.result.now is c.deref-2.ensures.value
    in
    let keeps3 = c.in_ok-ask_one_driver.ensures.keeps known one c.in_ok-ask_names.ensures.keeps in
    let any = nets_known names device design listed c.deref-3.result.now is c.deref-3.ensures.value
    in
    let p = err_from_is_err_and c.from_residual-in_err-ask_driver.result
    c.from_residual-in_err-ask_driver.ensures.1 in
    rw (p.1, p.2) (c.in_err-ask_driver.ensures.broken known any keeps3)

pub returns-in_err-ask_tables-clause-broken : goal.returns-in_err-ask_tables-clause-broken
returns-in_err-ask_tables-clause-broken c =
    let names = c.args.names.now in
    let device = c.args.device.now in
    let design = c.args.rec.now in
    let listed = c.args.listed.now in
    let is = c.requires.listed in
    let known = known_of names device design listed is in
    let one = nets_known names device design listed c.deref-2.result.now is c.deref-2.ensures.value
    in
    let keeps3 = c.in_ok-ask_one_driver.ensures.keeps known one c.in_ok-ask_names.ensures.keeps in
    let any = nets_known names device design listed c.deref-3.result.now is c.deref-3.ensures.value
    in
    let keeps4 = c.in_ok-ask_driver.ensures.keeps known any keeps3 in
    let tables = tables_known names device design listed c.in_ok-luts.luts c.deref-4.result.now
    c.deref-5.result.now c.deref-6.result.now is c.in_ok-luts.ensures c.deref-4.ensures.value
    c.deref-5.ensures.value (c.deref-6.ensures.value ∙ c.in_ok-tables.ensures) in
    let p = err_from_is_err_and c.from_residual-in_err-ask_tables.result
    c.from_residual-in_err-ask_tables.ensures.1 in
    rw (p.1, p.2) (c.in_err-ask_tables.ensures.broken known tables keeps4)

pub returns-in_err-ask_inputs-clause-broken : goal.returns-in_err-ask_inputs-clause-broken
returns-in_err-ask_inputs-clause-broken c =
    let names = c.args.names.now in
    let device = c.args.device.now in
    let design = c.args.rec.now in
    let listed = c.args.listed.now in
    let is = c.requires.listed in
    let known = known_of names device design listed is in
    let one = nets_known names device design listed c.deref-2.result.now is c.deref-2.ensures.value
    in
    let keeps3 = c.in_ok-ask_one_driver.ensures.keeps known one c.in_ok-ask_names.ensures.keeps in
    let any = nets_known names device design listed c.deref-3.result.now is c.deref-3.ensures.value
    in
    let keeps4 = c.in_ok-ask_driver.ensures.keeps known any keeps3 in
    let tables = tables_known names device design listed c.in_ok-luts.luts c.deref-4.result.now
    c.deref-5.result.now c.deref-6.result.now is c.in_ok-luts.ensures c.deref-4.ensures.value
    c.deref-5.ensures.value (c.deref-6.ensures.value ∙ c.in_ok-tables.ensures) in
    let keeps6 = c.in_ok-ask_tables.ensures.keeps known tables keeps4 in
    let inputs = inputs_known names device design listed c.in_ok-luts.luts c.deref-7.result.now
    c.deref-8.result.now is c.requires.inputs c.in_ok-luts.ensures c.deref-7.ensures.value
    c.deref-8.ensures.value in
    let p = err_from_is_err_and c.from_residual-in_err-ask_inputs.result
    c.from_residual-in_err-ask_inputs.ensures.1 in
    rw (p.1, p.2) (c.in_err-ask_inputs.ensures.broken known inputs keeps6)

pub returns-clause-judged : goal.returns-clause-judged
returns-clause-judged c =
    let names = c.args.names.now in
    let device = c.args.device.now in
    let design = c.args.rec.now in
    let listed = c.args.listed.now in
    let is = c.requires.listed in
    let known = known_of names device design listed is in
    let one = nets_known names device design listed c.deref-2.result.now is c.deref-2.ensures.value
    in
    let keeps3 = c.in_ok-ask_one_driver.ensures.keeps known one c.in_ok-ask_names.ensures.keeps in
    let any = nets_known names device design listed c.deref-3.result.now is c.deref-3.ensures.value
    in
    let keeps4 = c.in_ok-ask_driver.ensures.keeps known any keeps3 in
    let tables = tables_known names device design listed c.in_ok-luts.luts c.deref-4.result.now
    c.deref-5.result.now c.deref-6.result.now is c.in_ok-luts.ensures c.deref-4.ensures.value
    c.deref-5.ensures.value (c.deref-6.ensures.value ∙ c.in_ok-tables.ensures) in
    let keeps6 = c.in_ok-ask_tables.ensures.keeps known tables keeps4 in
    let inputs = inputs_known names device design listed c.in_ok-luts.luts c.deref-7.result.now
    c.deref-8.result.now is c.requires.inputs c.in_ok-luts.ensures c.deref-7.ensures.value
    c.deref-8.ensures.value in record {
      keeps = c.in_ok-ask_inputs.ensures.keeps known inputs keeps6;
      joined = c.in_ok-ask_inputs.ensures.joined known inputs;
      tables_are = c.in_ok-tables.ensures;
    }
