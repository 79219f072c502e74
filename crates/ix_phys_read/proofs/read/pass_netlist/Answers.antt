use Rattle.std.proofs.Common.{◌≤◌, arith}
use Rattle.std.proofs.lemmas.Result.{err_from_is_err_and}
use Rattle.ix_frame.specs.Sound.{endless}
use Rattle.ix_frame.specs.Views.{object_of, segments_of}
use Rattle.ix_message.specs.Phys.{phys_netlist}
use Rattle.ix_phys_read.specs.Sound.{most_cost}
use Rattle.ix_phys_read.proofs.Whole.{no_root, no_table, no_value, whole_read, whole_passed}
use Rattle.ix_phys_read.proofs.read.pass_netlist.Goals as goal

pub returns-in_err-root-clause-message : goal.returns-in_err-root-clause-message
returns-in_err-root-clause-message c =
    let p = err_from_is_err_and c.from_residual.result c.from_residual.ensures.1 in
    rw (p.1, p.2) (no_root (segments_of c.args.frame.now) c.in_err-root.field-0.0
    (rw c.new-budget.ensures.exact at c.in_err-root.ensures.exact.0))

pub returns-in_err-pass_texts_behind-clause-message :
    goal.returns-in_err-pass_texts_behind-clause-message
returns-in_err-pass_texts_behind-clause-message c =
    let p = err_from_is_err_and c.from_residual-in_err-pass_texts_behind.result
    c.from_residual-in_err-pass_texts_behind.ensures.1 in
    let le : c.root.new.budget ≤ endless =
    omega (arith, c.in_ok-root.ensures.left, c.new-budget.ensures.bound) in
    rw (p.1, p.2) (no_table c.readings_split.ensures (segments_of c.args.frame.now)
    (object_of c.in_ok-root.root) c.root.new.budget c.in_err-pass_texts_behind.field-0.0 le
    (rw c.new-budget.ensures.exact at c.in_ok-root.ensures.exact)
    c.in_err-pass_texts_behind.ensures)

pub returns-in_err-pass-clause-message : goal.returns-in_err-pass-clause-message
returns-in_err-pass-clause-message c =
    let p = err_from_is_err_and c.from_residual-in_err-pass.result
    c.from_residual-in_err-pass.ensures.1 in
    let le : c.root.new.budget ≤ endless =
    omega (arith, c.in_ok-root.ensures.left, c.new-budget.ensures.bound) in
    rw (p.1, p.2) (no_value c.readings_split.ensures (segments_of c.args.frame.now)
    (object_of c.in_ok-root.root) c.root.new.budget c.pass_texts_behind.new.budget
    c.in_err-pass.field-0.0 le (rw c.new-budget.ensures.exact at c.in_ok-root.ensures.exact)
    c.in_ok-pass_texts_behind.ensures
    (c.in_err-pass.ensures phys_netlist c.phys_table.ensures.forms))

pub returns-clause-message : goal.returns-clause-message
returns-clause-message c =
    let le : c.root.new.budget ≤ endless =
    omega (arith, c.in_ok-root.ensures.left, c.new-budget.ensures.bound) in
    whole_read c.readings_split.ensures (segments_of c.args.frame.now)
    (object_of c.in_ok-root.root) c.root.new.budget c.pass_texts_behind.new.budget
    c.pass.new.budget le (rw c.new-budget.ensures.exact at c.in_ok-root.ensures.exact)
    c.in_ok-pass_texts_behind.ensures
    (c.in_ok-pass.ensures phys_netlist c.phys_table.ensures.forms)

pub returns-clause-passed : goal.returns-clause-passed
returns-clause-passed c =
    let few : c.root.new.budget ≤ most_cost =
    omega (arith, c.in_ok-root.ensures.left, c.new-budget.ensures.bound) in
    whole_passed c.readings_split.ensures
    (object_of c.in_ok-root.root) c.root.new.budget c.pass_texts_behind.new.budget
    c.pass.new.budget few c.in_ok-pass_texts_behind.ensures
    (c.in_ok-pass.ensures phys_netlist c.phys_table.ensures.forms)
