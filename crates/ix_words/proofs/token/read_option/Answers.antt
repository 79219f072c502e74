use Rattle.ix_words.proofs.OptionWords.{is_alone}
use Rattle.ix_words.proofs.token.read_option.Goals as goal

pub returns-in-None : goal.returns-in-None
returns-in-None c =
    is_alone c.args.word.now c.read_alone.result c.in-None.ensures.cases c.read_alone.ensures
