use Rattle.ix_names_grow.proofs.Same.{is_grown}
use Rattle.ix_names_grow.proofs.law.names_grow.Goals as goal

pub returns : goal.returns
returns c = λ old new design keeps fits. is_grown old new design keeps fits
