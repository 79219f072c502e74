use Rattle.std.proofs.Common.{◌≤◌, refl, sym, arith}
use Rattle.ix_take.specs.Views.{field_word}
use Rattle.ix_phys_read.proofs.Words.{no_field}
use Rattle.ix_phys_read.proofs.read.branch_field.Goals as goal

pub returns-in-0 : goal.returns-in-0
unfolding field_word
returns-in-0 c = rw c.in-0.is refl

pub returns-in-1 : goal.returns-in-1
unfolding field_word
returns-in-1 c = rw c.in-1.is refl

pub returns-in-2 : goal.returns-in-2
unfolding field_word
returns-in-2 c = rw c.in-2.is refl

pub returns-in-3 : goal.returns-in-3
unfolding field_word
returns-in-3 c = rw c.in-3.is refl

pub returns-in-4 : goal.returns-in-4
unfolding field_word
returns-in-4 c = rw c.in-4.is refl

pub returns-in-5 : goal.returns-in-5
unfolding field_word
returns-in-5 c = rw c.in-5.is refl

pub returns-in_default : goal.returns-in_default
returns-in_default c =
    let past : 6 ≤ c.args.field = omega (arith, c.in_default) in
    sym (no_field c.args.field past)
