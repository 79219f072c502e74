use Rattle.std.proofs.Common.{arith}
use Rattle.std.proofs.lemmas.Str.Pattern.{strip_suffix_char}
use Rattle.ix_open_inputs.proofs.index.before_bracket.Goals as goal

pub returns : goal.returns
returns c = strip_suffix_char 93 c.args.text.now c.strip_suffix.result c.strip_suffix.ensures.cases
    (omega arith)
