use Rattle.std.proofs.Common.{◌≡◌, ◌∙◌, sym, subst, ℕ, arith, Err, Ok, Result}
use Rattle.std.proofs.lemmas.Bool.{false≢true}
use Rattle.std.proofs.lemmas.Fmt.{parse-decimal}
use Rattle.ix_named_there.specs.Keys.{BeginPlainly}
use Rattle.ix_named_there.proofs.Numbers.{decimal_plain, written_so}
use Rattle.ix_named_there.proofs.keys.number_of.Goals as goal

pub returns-then-not-begin_plainly-clause-number : goal.returns-then-not-begin_plainly-clause-number
returns-then-not-begin_plainly-clause-number c n small is =
    false≢true (sym c.if-not-begin_plainly.true ∙ c.begin_plainly.ensures.1
    (subst BeginPlainly (sym (c.as_bytes.ensures.value ∙ is)) (decimal_plain n (omega (
      arith,
      small,
    )))))

pub returns-in-Ok-clause-number : goal.returns-in-Ok-clause-number
returns-in-Ok-clause-number c = written_so c.args.digits.now c.parse.result c.in-Ok.number
    c.in-Ok.is
    c.parse.ensures.value.0
    (subst BeginPlainly c.as_bytes.ensures.value
    (c.begin_plainly.ensures.0 c.if-not-begin_plainly.false))

ok_or_err : {E : Type 0} (r : Result ℕ E) (e : E) (n : ℕ) → r ≡ Err e → r ≡ Ok n → ⊥
ok_or_err r e n is other = cc

pub returns-in-Err-clause-number : goal.returns-in-Err-clause-number
returns-in-Err-clause-number c n small is = ok_or_err c.parse.result c.in-Err.field-0 n c.in-Err.is
    (parse-decimal 32 n c.args.digits.now c.parse.result small (omega (arith, small)) is
    c.parse.ensures.value.0)
