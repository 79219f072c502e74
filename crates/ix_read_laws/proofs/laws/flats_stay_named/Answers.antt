use Rattle.ix_read_laws.proofs.MoreFlats.{flat_named, flat_whole}
use Rattle.ix_read_laws.proofs.laws.flats_stay_named.Goals as goal

pub returns-clause-named : goal.returns-clause-named
returns-clause-named c = λ old new flat keeps named. flat_named old new flat keeps named

pub returns-clause-whole : goal.returns-clause-whole
returns-clause-whole c = λ old new rec flat keeps whole. flat_whole old new rec flat keeps whole
