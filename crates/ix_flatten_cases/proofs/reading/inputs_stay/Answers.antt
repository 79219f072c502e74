use Rattle.ix_flatten_cases.proofs.Grown as grown
use Rattle.ix_flatten_cases.proofs.reading.inputs_stay.Goals as goal

pub returns : goal.returns
returns c = grown.inputs_stay
