use Rattle.std.proofs.Common.{arith}
use Rattle.std.proofs.lemmas.Result.{err_from_is_err_and}
use Rattle.ix_rec.specs.declared.place.Rule.TheVariants.{L1, L2, L7}
use Rattle.ix_rules.proofs.judge.judge_uses.Goals as goal

pub first_without_function-requires-clause-named : goal.first_without_function-requires-clause-named
first_without_function-requires-clause-named c = c.requires.kept L1 (omega arith)

pub first_without_function-requires-clause-placed :
    goal.first_without_function-requires-clause-placed
first_without_function-requires-clause-placed c = c.requires.kept L2 (omega arith)

pub first_without_function-requires-clause-unshared :
    goal.first_without_function-requires-clause-unshared
first_without_function-requires-clause-unshared c =
    (c.args.on.now.level, c.requires.kept L7 (omega arith))

pub returns-in_err-told-2 : goal.returns-in_err-told-2
returns-in_err-told-2 c =
    let p = err_from_is_err_and c.from_residual-in_err-told-2.result
    c.from_residual-in_err-told-2.ensures.1 in
    rw (p.1, p.2) (c.in_err-told-2.ensures c.args.on.now.level c.args.on.now.names.now
    c.args.on.now.device.now c.args.on.now.phys.now
    (c.in_ok-told.ensures c.args.on.now.level c.args.on.now.names.now c.args.on.now.device.now
    c.args.on.now.phys.now c.requires.kept c.first_out_of_use.ensures.told)
    c.in_ok-first.ensures.told)

pub returns : goal.returns
returns c = c.told-3.ensures c.args.on.now.level c.args.on.now.names.now c.args.on.now.device.now
    c.args.on.now.phys.now
    (c.in_ok-told-2.ensures c.args.on.now.level c.args.on.now.names.now c.args.on.now.device.now
    c.args.on.now.phys.now
    (c.in_ok-told.ensures c.args.on.now.level c.args.on.now.names.now c.args.on.now.device.now
    c.args.on.now.phys.now c.requires.kept c.first_out_of_use.ensures.told)
    c.in_ok-first.ensures.told) c.first_stub.ensures.told
