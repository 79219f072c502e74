use Rattle.ix_take.proofs.Finds.{finds_first}
use Rattle.ix_take.proofs.laws.walk_finds_first.Goals as goal

pub returns : goal.returns
returns c structs steps few kinds most = finds_first structs steps few kinds most
