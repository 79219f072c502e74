use Rattle.std.proofs.Common.{◌∙◌, arith}
use Rattle.ix_lut.proofs.Inits.{refused}
use Rattle.ix_lut.proofs.init.spelled.Goals as goal

pub returns-in_err-value : goal.returns-in_err-value
returns-in_err-value c = c.from_residual.ensures ∙ refused c.args.base c.loop-i.value c.args.limit
    c.loop-i.i c.args.digits.now c.requires.least (omega (arith, c)) c.loop-i.invariant.0
    (c.in_err-value.ensures)
