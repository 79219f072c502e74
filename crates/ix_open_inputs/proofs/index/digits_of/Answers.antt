use Rattle.ix_open_inputs.proofs.BusBits.{no_bracket, bracketed}
use Rattle.ix_open_inputs.proofs.index.digits_of.Goals as goal

pub returns-in_default-after_bracket : goal.returns-in_default-after_bracket
returns-in_default-after_bracket c = no_bracket c.args.text.now c.args.name.now
    c.in-Some.behind.now c.in-Some.ensures c.in_default-after_bracket.ensures

pub returns : goal.returns
returns c = bracketed c.args.text.now c.args.name.now c.in-Some.behind.now
    c.in-Some-after_bracket.inner.now c.before_bracket.result c.in-Some.ensures
    c.in-Some-after_bracket.ensures c.before_bracket.ensures
