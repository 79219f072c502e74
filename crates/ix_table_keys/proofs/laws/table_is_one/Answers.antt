use Rattle.ix_table_keys.proofs.Keyed.{one_table}
use Rattle.ix_table_keys.proofs.laws.table_is_one.Goals as goal

pub returns : goal.returns
returns c = record { law = one_table }
