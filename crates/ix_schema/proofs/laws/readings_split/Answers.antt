use Rattle.ix_schema.proofs.Splits.{value_splits}
use Rattle.ix_schema.proofs.laws.readings_split.Goals as goal

pub returns : goal.returns
returns c s o budget le = (value_splits s o budget le).is
