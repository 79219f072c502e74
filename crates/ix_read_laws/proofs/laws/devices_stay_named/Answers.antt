use Rattle.ix_read_laws.proofs.MoreNames.{still_named}
use Rattle.ix_read_laws.proofs.laws.devices_stay_named.Goals as goal

pub returns : goal.returns
returns c = λ old new rec keeps named. still_named old new rec keeps named
