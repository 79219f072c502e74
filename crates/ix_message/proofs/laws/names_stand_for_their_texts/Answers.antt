use Rattle.ix_message.proofs.NamesAgain.{names_again}
use Rattle.ix_message.proofs.laws.names_stand_for_their_texts.Goals as goal

pub returns : goal.returns
returns c = names_again
