use Rattle.ix_legal.proofs.Told.{answers}
use Rattle.ix_legal.proofs.laws.answers_are_one.Goals as goal

pub returns : goal.returns
returns c = record { law = answers }
